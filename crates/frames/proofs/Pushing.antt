-- One more step stands: what its frame, the cells and the trail then tell.
use Rattle.std.proofs.Common.{◌≡◌, ℕ, zero, suc, ◌+◌, ◌<◌, ◌≤◌, Bool, true, false, cond, eqb, ◌⊎◌, List, [], ◌∷◌, ◌++◌, length, get_or, take, drop, set, Some, None, Option, sym, refl, ap, ◌∙◌, subst, inl, inr, arith, length-append}
use mathlib.Core.Logic.{∥∥₁_elim}
use native.Mathlib.Bridge.{le_prop}
use Rattle.std.specs.List.{slice_get, AllByRecursion}
use Rattle.std.specs.Option.{option_map}
use Rattle.std.proofs.ByRecursion.{All-append, All-weaker}
use Rattle.std.proofs.lemmas.List.{get_or_push, get_or_append_left, length_push, take-take, take_at, drop_at}
use Rattle.std.proofs.lemmas.Bool.{cases_lt}
use Rattle.theory.specs.Entries.{Entry, EntryRules, BookRules, IsNode}
use Rattle.theory.specs.Records.{Term, Replay}
use Rattle.theory.specs.Records as T
use Rattle.theory.proofs.Elements.{none_some, some_inj, all_nth}
use Rattle.unify.specs.Cells.{Cell, unjoined}
use Rattle.unify.specs.Unify.{State, clear}
use Rattle.unify.specs.Steady.{WentOn}
use Rattle.book.specs.Answers.{goal_in, goal_at}
use Rattle.calls.specs.declared.step.Step.{Step}
use Rattle.calls.specs.Steps.{step_of}
use Rattle.frames.specs.declared.frame.Goal.{Goal}
use Rattle.frames.specs.declared.frame.Frame.{Frame}
use Rattle.frames.specs.Goals.{above, closing_goal, left_by, goal_left, IsGoal, Link, Pends, Origin, Current}
use Rattle.frames.specs.Levels.{size_of, end_of, Tells, Level}
use Rattle.frames.proofs.Following.{nth_inside, within_more}
use Rattle.frames.proofs.Agreeing.{Agree, below, lies_agree, goal_agree, pends_agree}
use Rattle.frames.proofs.Clearing.{clear_append, take_clear}

module _ {A : Type 0} where
  pub nth_left : (xs ys : List A) (s : ℕ) (x : A) → slice_get xs s ≡ Some x → slice_get (xs ++ ys) s ≡ Some x
  nth_left [] ys s x e = absurd (none_some e)
  nth_left (z ∷ xs) ys zero x e = e
  nth_left (z ∷ xs) ys (suc s) x e = nth_left xs ys s x e

  pub nth_end : (xs : List A) (x : A) (n : ℕ) → length xs ≡ n → slice_get (xs ++ (x ∷ [])) n ≡ Some x
  nth_end xs x n e = subst (λ k. slice_get (xs ++ (x ∷ [])) k ≡ Some x) e (go xs)
    where
      go : (ys : List A) → slice_get (ys ++ (x ∷ [])) (length ys) ≡ Some x
      go [] = refl
      go (y ∷ ys) = go ys

-- a frame written at a place leaves the others
pub nth_set_apart : {A : Type 0} (xs : List A) (n s : ℕ) (x : A) → s < n → slice_get (set xs n x) s ≡ slice_get xs s
nth_set_apart [] zero s x h = refl
nth_set_apart [] (suc n) s x h = refl
nth_set_apart (y ∷ ys) zero s x h = absurd (omega arith)
nth_set_apart (y ∷ ys) (suc n) zero x h = refl
nth_set_apart (y ∷ ys) (suc n) (suc s) x h = nth_set_apart ys n s x (omega arith)

pub nth_set_here : {A : Type 0} (xs : List A) (n : ℕ) (x : A) → n < length xs → slice_get (set xs n x) n ≡ Some x
nth_set_here [] n x h = absurd (omega arith)
nth_set_here (y ∷ ys) zero x h = refl
nth_set_here (y ∷ ys) (suc n) x h = nth_set_here ys n x (omega arith)

module _ {V : Type 0} (book : List (Entry V)) (goals : List ℕ) (old new : List Frame) (n : ℕ) (goal : Goal) (l : List T.Goal)
    (u : Current book goals old goal l) (lower : above goal.parent ≤ n) (agree : Agree n old new) (f : Frame)
    (here : slice_get new n ≡ Some f) (f_goal : f.goal ≡ goal) where
  -- the frame of a new step is linked
  pub link_after : goal.cell < f.used → f.used ≤ 2048 → Link n f
  link_after inside small = record {
    lower = subst (λ (z : Goal). above z.parent ≤ n) (sym f_goal) lower;
    few = subst (λ (z : Goal). z.place < 8) (sym f_goal) u.few;
    goal = subst (λ (z : Goal). z.cell < f.used) (sym f_goal) inside;
    small = small;
  }

  -- the goals that it leaves come before the others
  pub pends_after : goal.cell < f.used → f.used ≤ 2048 →
      Pends book goals new (n ∷ u.chain) (Some n) 0 (left_by book n f u.first ++ u.rest)
  pends_after inside small = (
    refl,
    (
      f,
      u.first,
      u.rest,
      here,
      link_after inside small,
      subst (IsGoal new u.chain u.first) (sym f_goal)
          (goal_agree n old new agree u.chain u.first goal lower u.is),
      refl,
      subst (λ (z : Goal). Pends book goals new u.chain z.parent (suc z.place) u.rest) (sym f_goal)
          (pends_agree n old new agree book goals u.chain goal.parent (suc goal.place) u.rest lower u.pends),
    ),
  )

-- a body goal, as it lies in a frame
abbrev left_goal : ℕ → ℕ → Frame → ℕ → Goal
left_goal s j f b = record { cell = f.used + b; inner = f.goal.inner; parent = Some s; place = j }

-- there is a cell with the number of a node
node_inside : {V : Type 0} (e : Entry V) (b : ℕ) → IsNode (slice_get e.parts b) → b < length e.parts
node_inside e b i = go (slice_get e.parts b) refl i
  where
    go : (o : Option _) → slice_get e.parts b ≡ o → IsNode o → b < length e.parts
    go None p i = absurd i
    go (Some x) p i = nth_inside e.parts b x p

module _ {V : Type 0} (book : List (Entry V)) (rules : ∥ BookRules book ∥₁) (goals : List ℕ) (used₀ : ℕ)
    (cells₀ : List (Cell V)) (low : AllByRecursion (λ g. g < used₀) goals) where
  -- the goal that a step leaves lies in a cell that was in use after it
  left_inside : (s j : ℕ) (f : Frame) (goal : Goal) → Link s f → goal_left book s f j ≡ Some goal → goal.cell < end_of book f
  left_inside s j f goal link e = go (eqb f.step.mode 2) e
    where
      closing : (i : ℕ) → closing_goal s f i ≡ Some goal → goal.cell < f.used
      closing zero q = subst (λ (x : Goal). x.cell < f.used) (some_inj q) link.goal
      closing (suc i) q = absurd (none_some q)

      body : (en : Entry V) → slice_get book f.step.number ≡ Some en → (o : Option ℕ) → slice_get en.body j ≡ o →
          option_map (left_goal s j f) o ≡ Some goal → goal.cell < f.used + length en.parts
      body en p None q z = absurd (none_some z)
      body en p (Some b) q z =
          ∥∥₁_elim rules le_prop (λ r.
          let er : EntryRules en = all_nth EntryRules book f.step.number en r.entries p in
          let h : b < length en.parts = node_inside en b (all_nth (λ k. IsNode (slice_get en.parts k)) en.body j b er.goals q) in
          subst (λ (x : Goal). x.cell < f.used + length en.parts) (some_inj z) (omega arith))

      entry : (o : Option (Entry V)) → slice_get book f.step.number ≡ o → option_map (left_goal s j f) (goal_in o j) ≡ Some goal →
          goal.cell < f.used + size_of o
      entry None p z = absurd (none_some z)
      entry (Some en) p z = body en p (slice_get en.body j) refl z

      go : (b : Bool) → cond b (closing_goal s f j) (option_map (left_goal s j f) (goal_at book f.step.number j)) ≡ Some goal →
          goal.cell < cond b f.used (f.used + size_of (slice_get book f.step.number))
      go true q = closing j q
      go false q = entry (slice_get book f.step.number) refl q

  -- a step leaves no fewer cells in use than there were
  pub end_after : (f : Frame) → f.used ≤ end_of book f
  end_after f = go (eqb f.step.mode 2)
    where
      go : (b : Bool) → f.used ≤ cond b f.used (f.used + size_of (slice_get book f.step.number))
      go true = omega arith
      go false = omega arith

  module _ (frames : List Frame) (n : ℕ) (r : Replay V) (steps : List T.Step) (cells : List (Cell V)) (trail : List ℕ)
      (level : Level book goals used₀ cells₀ frames n r steps cells trail) (goal : Goal) where
    origin_inside : above goal.parent ≤ n → Origin book goals frames goal → goal.cell < length cells
    origin_inside h (inl (p, e)) =
        let k : goal.cell < used₀ = all_nth (λ g. g < used₀) goals goal.place goal.cell low e in
        let m : length cells ≡ used₀ + r.cells = level.number in
        omega arith
    origin_inside h (inr (s, f, p, e, q)) =
        let i : s < n = below goal.parent s n p h in
        let t : Tells book goals used₀ cells₀ frames r steps (length cells) n s f = level.tells s f e i in
        let k : goal.cell < end_of book f = left_inside s goal.place f goal t.link q in
        let m : end_of book f ≤ length cells = t.end in
        omega arith

    -- the goal to be taken lies in a cell in use
    pub goal_inside : above goal.parent ≤ n → Current book goals frames goal r.pending → goal.cell < length cells
    goal_inside h u = origin_inside h u.origin

    module _ (u : Current book goals frames goal r.pending) (lower : above goal.parent ≤ n) (few : length cells ≤ 2048)
        (new : List Frame) (agree : Agree n frames new) (long : n < length new) (x : Step) (f : Frame)
        (here : slice_get new n ≡ Some f) (f_goal : f.goal ≡ goal) (f_step : f.step ≡ x) (f_used : f.used ≡ length cells)
        (m : Replay V) (k : ℕ) (m_taken : m.taken ≡ r.taken ++ (u.first.term ∷ []))
        (m_offsets : m.offsets ≡ r.offsets ++ (r.cells ∷ [])) (m_cells : m.cells ≡ r.cells + k)
        (m_end : end_of book f ≡ length cells + k) where
      -- the frame of the new step is linked
      new_link : Link n f
      new_link =
          link_after book goals frames new n goal r.pending u lower agree f here f_goal
          (let inside : goal.cell < length cells = goal_inside lower u in omega arith) (omega arith)

      -- it tells of the new step
      new_tells : (size : ℕ) → length cells + k ≤ size →
          Tells book goals used₀ cells₀ new m (steps ++ (step_of x ∷ [])) size (suc n) n f
      new_tells size h = record {
        link = new_link;
        base =
            ap (λ l. used₀ + get_or l n 0) m_offsets
            ∙ (ap (λ c. used₀ + c) (get_or_push r.offsets r.cells 0 n level.offsets) ∙ (sym level.number ∙ sym f_used));
        term = u.first.term;
        taken = ap (λ l. slice_get l n) m_taken ∙ nth_end r.taken u.first.term n level.taken;
        within = within_more (above goal.parent) (suc n) (omega arith) u.first.term u.is.within;
        lies =
            lies_agree n frames new agree u.first.term
            (within_more (above goal.parent) n lower u.first.term u.is.within)
            ∙ (u.is.lies ∙ ap (λ (z : Goal). z.cell) (sym f_goal));
        step = ap (λ l. slice_get (steps ++ (step_of l ∷ [])) n) (sym f_step) ∙ nth_end steps (step_of f.step) n level.recorded;
        end = omega arith;
      }

      -- the older frames tell what they did
      old_tells : (size : ℕ) → length cells + k ≤ size → (s : ℕ) (h : Frame) → slice_get new s ≡ Some h → s < n →
          Tells book goals used₀ cells₀ new m (steps ++ (step_of x ∷ [])) size (suc n) s h
      old_tells size b s h e i =
          let t : Tells book goals used₀ cells₀ frames r steps (length cells) n s h =
          level.tells s h (sym (agree s i) ∙ e) i in
          record {
            link = t.link;
            base =
                ap (λ l. used₀ + get_or l s 0) m_offsets
                ∙ (ap (λ c. used₀ + c)
                (get_or_append_left r.offsets (r.cells ∷ []) 0 s (let z : length r.offsets ≡ n = level.offsets in omega arith))
                ∙ t.base);
            term = t.term;
            taken = ap (λ l. slice_get l s) m_taken ∙ nth_left r.taken (u.first.term ∷ []) s t.term t.taken;
            within = within_more n (suc n) (omega arith) t.term t.within;
            lies = lies_agree n frames new agree t.term t.within ∙ t.lies;
            step = nth_left steps (step_of x ∷ []) s (step_of h.step) t.step;
            end = let z : end_of book h ≤ length cells = t.end in omega arith;
          }

      any_tells : (size : ℕ) → length cells + k ≤ size → (s : ℕ) (h : Frame) → slice_get new s ≡ Some h → s < suc n →
          Tells book goals used₀ cells₀ new m (steps ++ (step_of x ∷ [])) size (suc n) s h
      any_tells size b s h e i = go (cases_lt s n)
        where
          go : (s < n) ⊎ (n ≤ s) → Tells book goals used₀ cells₀ new m (steps ++ (step_of x ∷ [])) size (suc n) s h
          go (inl j) = old_tells size b s h e j
          go (inr j) =
              let z : s ≡ n = omega arith in
              subst (λ q. Tells book goals used₀ cells₀ new m (steps ++ (step_of x ∷ [])) size (suc n) q h) (sym z)
              (subst (Tells book goals used₀ cells₀ new m (steps ++ (step_of x ∷ [])) size (suc n) n)
              (some_inj (sym here ∙ (ap (slice_get new) (sym z) ∙ e))) (new_tells size b))

      module _ (mid : List (Cell V)) (mid_number : length mid ≡ length cells + k) (mid_front : take (length cells) mid ≡ cells)
          (mid_unjoined : unjoined mid ≡ unjoined cells + k) (t : State V) (on : WentOn mid t) where
        -- one more step stands
        pub pushed : Level book goals used₀ cells₀ new (suc n) m (steps ++ (step_of x ∷ [])) t.cells (trail ++ t.trail)
        pushed =
            let size : length t.cells ≡ length cells + k = on.number ∙ mid_number in
            record {
              taken = ap length m_taken ∙ (length_push r.taken u.first.term ∙ (let z : length r.taken ≡ n = level.taken in omega arith));
              offsets = ap length m_offsets ∙ (length_push r.offsets r.cells ∙ (let z : length r.offsets ≡ n = level.offsets in omega arith));
              recorded = length_push steps (step_of x) ∙ (let z : length steps ≡ n = level.recorded in omega arith);
              framed = omega arith;
              tells = any_tells (length t.cells) (omega arith);
              number = let z : length cells ≡ used₀ + r.cells = level.number in omega arith;
              solved = on.solved;
              room =
                  let z : unjoined t.cells + length t.trail ≡ unjoined mid = on.kept in
                  let w : unjoined cells + length trail ≤ length cells = level.room in
                  omega (arith, length-append trail t.trail);
              inside =
                  All-append (λ i. i < length t.cells) trail t.trail
                  (All-weaker (λ i. i < length cells) (λ i. i < length t.cells) (λ i h. omega arith) trail level.inside)
                  (subst (λ q. AllByRecursion (λ i. i < q) t.trail) (sym on.number) on.trailed);
              undone =
                  ap (take used₀) (clear_append trail t.trail t.cells ∙ ap (clear trail) on.undone)
                  ∙ (take_clear used₀ trail mid
                  ∙ (ap (clear trail)
                  (sym (take-take used₀ (length cells) mid (let z : length cells ≡ used₀ + r.cells = level.number in omega arith))
                  ∙ ap (take used₀) mid_front)
                  ∙ (sym (take_clear used₀ trail cells) ∙ level.undone)));
            }

        -- what the step joined is at the trail's end, and the cells before it come back
        pub back_again : cells ≡ take (length cells) (clear (drop (length trail) (trail ++ t.trail)) t.cells)
        back_again =
            sym (ap (λ l. take (length cells) (clear l t.cells)) (drop_at trail t.trail (length trail) refl)
            ∙ (ap (take (length cells)) on.undone ∙ mid_front))

        pub trail_again : take (length trail) (trail ++ t.trail) ≡ trail
        trail_again = take_at trail t.trail (length trail) refl

      -- the goals that the step leaves come first
      pub pends_new : (m_pending : m.pending ≡ left_by book n f u.first ++ u.rest) →
          Pends book goals new (n ∷ u.chain) (Some n) 0 m.pending
      pends_new m_pending =
          subst (Pends book goals new (n ∷ u.chain) (Some n) 0) (sym m_pending)
          (pends_after book goals frames new n goal r.pending u lower agree f here f_goal
          (let inside : goal.cell < length cells = goal_inside lower u in omega arith) (omega arith))
