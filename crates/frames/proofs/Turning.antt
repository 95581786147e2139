-- One turn of a search, over frames, cells and a trail.
use Rattle.std.proofs.Common.{◌≡◌, ℕ, suc, ◌+◌, ◌<◌, ◌≤◌, Bool, true, false, cond, eqb, List, [], ◌∷◌, ◌++◌, map, length, take, drop, Some, None, Option, sym, refl, ap, ◌∙◌, subst, le_refl, arith, length-append}
use Rattle.std.specs.List.{slice_get, AllByRecursion}
use Rattle.std.proofs.lemmas.Bool.{eq-eqb, ne_eqb}
use Rattle.theory.specs.Entries.{Entry, BookRules}
use Rattle.theory.specs.Records.{Replay, Replayed, step, expand, close, goal_below}
use Rattle.theory.specs.Records as T
use Rattle.theory.specs.Search.{Point, Limits, granted, failed, spent, full, short, tries, without, onward}
use Rattle.theory.proofs.Elements.{some_inj}
use Rattle.unify.specs.Cells.{Cell, unjoined}
use Rattle.unify.specs.Unify.{State, Move, unify, clear}
use Rattle.unify.specs.Steady.{WentOn}
use Rattle.searching.specs.Trying.{copied, attempt}
use Rattle.searching.specs.Solving.{Spot, spot, searches, ended}
use Rattle.searching.proofs.Turns.{turn_granted, turn_failed, turn_back, turn_spent, turn_full, turn_short, turn_falls, turn_stands}
use Rattle.calls.specs.declared.step.Step.{Step}
use Rattle.calls.specs.Steps.{step_of}
use Rattle.frames.specs.declared.frame.Goal.{Goal}
use Rattle.frames.specs.declared.frame.Frame.{Frame}
use Rattle.frames.specs.declared.frame.Cursor.{Cursor}
use Rattle.frames.specs.Goals.{above, inner_goal, body_goals, left_by, Pends, Current, First, NextGoal}
use Rattle.frames.specs.Tries.{cursor_after, Takes, NextTry, first_cursor, Leftover}
use Rattle.frames.specs.Levels.{size_of, end_of, Level, Under, Stacked, Facing, Represents}
use Rattle.frames.specs.Points.{Searching, EndsAs}
use Rattle.frames.proofs.Agreeing.{Agree, current_agree, leftover_agree, level_agree, stacked_agree, cursor_agree}
use Rattle.frames.proofs.Pushing.{pushed, back_again, trail_again, pends_new}
use Rattle.frames.proofs.Leaving.{NextLeft, no_try, next_left, all_left}
use Rattle.frames.proofs.Leaving.{entry_on, entry_attempt, loop_on, loop_attempt}

-- the latest step's frame, and the point below it
pub top_under : {V : Type 0} (book : List (Entry V)) (goals : List ℕ) (used₀ : ℕ) (cells₀ : List (Cell V))
    (frames : List Frame) (n : ℕ) (cells : List (Cell V)) (trail : List ℕ) (below : List (Spot V)) →
    Stacked book goals used₀ cells₀ frames n cells trail below → (m : ℕ) (f : Frame) → n ≡ suc m → slice_get frames m ≡ Some f →
    (q : Spot V) × (qs : List (Spot V)) × (below ≡ q ∷ qs) × Under book goals used₀ cells₀ frames m f q cells trail ×
    Stacked book goals used₀ cells₀ frames m q.cells (take f.trail trail) qs
top_under book goals used₀ cells₀ frames n cells trail [] k m f e at = absurd (omega arith)
top_under book goals used₀ cells₀ frames n cells trail (q ∷ qs) (m₀, f₀, e₀, at₀, under, rest) m f e at =
    let mm : m₀ ≡ m = omega arith in
    let ff : f₀ ≡ f = some_inj (sym at₀ ∙ (ap (slice_get frames) mm ∙ at)) in (
      q,
      qs,
      refl,
      subst (λ k. Under book goals used₀ cells₀ frames k f q cells trail) mm
          (subst (λ y. Under book goals used₀ cells₀ frames m₀ y q cells trail) ff under),
      subst (λ k. Stacked book goals used₀ cells₀ frames k q.cells (take f.trail trail) qs) mm
          (subst (λ (y : Frame). Stacked book goals used₀ cells₀ frames m₀ q.cells (take y.trail trail) qs) ff rest),
    )

-- a step that the goal may take, by what it comes to: so many new cells, the cells with its instance, and the cell with
-- which the goal is unified
pub record Onto {V : Type 0} (same : V → V → Bool) (book : List (Entry V)) (used₀ : ℕ) (n : ℕ) (r : Replay V)
    (cells : List (Cell V)) (goal : Goal) (first : T.Goal) (rest : List T.Goal) (x : Step) (k : ℕ)
    (mid : List (Cell V)) (b : ℕ) : Type 0 where
  pub next : Replay V
  pub on : step book r (step_of x) ≡ Replayed.went next
  pub taken : next.taken ≡ r.taken ++ (first.term ∷ [])
  pub offsets : next.offsets ≡ r.offsets ++ (r.cells ∷ [])
  pub number : next.cells ≡ r.cells + k
  pub pending : (f : Frame) → f.step ≡ x → next.pending ≡ left_by book n f first ++ rest
  pub end : (f : Frame) → f.step ≡ x → f.used ≡ length cells → end_of book f ≡ length cells + k
  pub tried : attempt same book used₀ cells r first x.mode x.number ≡ unify same mid goal.cell b

module _ {V : Type 0} (same : V → V → Bool) (book : List (Entry V)) (goals : List ℕ) (used₀ : ℕ)
    (cells₀ : List (Cell V)) where
  module _ (frames : List Frame) (n : ℕ) (r : Replay V) (steps : List T.Step) (cells : List (Cell V)) (trail : List ℕ)
      (level : Level book goals used₀ cells₀ frames n r steps cells trail) (goal : Goal)
      (u : Current book goals frames goal r.pending) (lower : above goal.parent ≤ n) (x : Step) where
    -- a step that names an entry
    pub entry_onto : (t : Takes book goal.inner x.number) → x.mode ≡ (cond goal.inner 3 1) → (x.mode ≡ 2 → ⊥) →
        Onto same book used₀ n r cells goal u.first u.rest x (length t.entry.parts)
        (copied (λ j. length cells + j) cells t.entry.parts) (length cells + t.entry.head)
    entry_onto t m apart = record {
      next = expand r u.first u.rest t.entry;
      on = entry_on same book goals used₀ cells₀ frames n r steps cells trail level goal u lower x t.entry t.found m t.outer;
      taken = refl;
      offsets = refl;
      number = refl;
      pending = λ f e.
          let z : eqb f.step.mode 2 ≡ false = ne_eqb f.step.mode 2 (λ q. apart (ap (λ (y : Step). y.mode) (sym e) ∙ q)) in
          let w : slice_get book f.step.number ≡ Some t.entry = ap (λ (y : Step). slice_get book y.number) e ∙ t.found in
          ap (λ l. map (goal_below l u.first) t.entry.body ++ u.rest) level.taken
          ∙ sym (ap (λ b. cond b (inner_goal u.first ∷ []) (body_goals book (slice_get book f.step.number) n u.first) ++ u.rest) z
          ∙ ap (λ o. body_goals book o n u.first ++ u.rest) w);
      end = λ f e q.
          let z : eqb f.step.mode 2 ≡ false = ne_eqb f.step.mode 2 (λ q. apart (ap (λ (y : Step). y.mode) (sym e) ∙ q)) in
          let w : slice_get book f.step.number ≡ Some t.entry = ap (λ (y : Step). slice_get book y.number) e ∙ t.found in
          ap (λ b. cond b f.used (f.used + size_of (slice_get book f.step.number))) z
          ∙ (ap (λ o. f.used + size_of o) w ∙ ap (λ h. h + length t.entry.parts) q);
      tried = entry_attempt same book goals used₀ cells₀ frames n r steps cells trail level goal u lower x t.entry t.found m;
    }

    -- a step that closes a loop
    pub loop_onto : x.mode ≡ 2 → goal.inner ≡ false → T.member x.number u.chain ≡ true → x.number < n →
        (h : Frame) → slice_get frames x.number ≡ Some h →
        Onto same book used₀ n r cells goal u.first u.rest x 0 cells h.goal.cell
    loop_onto m i p inside h at = record {
      next = close r u.first u.rest x.number;
      on = loop_on same book goals used₀ cells₀ frames n r steps cells trail level goal u lower x m i p;
      taken = refl;
      offsets = refl;
      number = omega arith;
      pending = λ f e.
          let z : eqb f.step.mode 2 ≡ true = eq-eqb f.step.mode 2 (ap (λ (y : Step). y.mode) e ∙ m) in
          sym (ap (λ b. cond b (inner_goal u.first ∷ []) (body_goals book (slice_get book f.step.number) n u.first) ++ u.rest) z);
      end = λ f e q.
          let z : eqb f.step.mode 2 ≡ true = eq-eqb f.step.mode 2 (ap (λ (y : Step). y.mode) e ∙ m) in
          ap (λ b. cond b f.used (f.used + size_of (slice_get book f.step.number))) z ∙ (q ∙ omega arith);
      tried = loop_attempt same book goals used₀ cells₀ frames n r steps cells trail level goal u lower x m h at inside;
    }

  module _ (lim : Limits) (frames : List Frame) (n : ℕ) (c : Cursor) (count : ℕ) (cells : List (Cell V)) (trail : List ℕ) where
    -- where the search stands
    abbrev pub Here : Option Goal → Type 0
    Here goal = Searching same book goals used₀ cells₀ lim frames n goal c count cells trail

    -- the search ends in this turn
    ends : (goal : Option Goal) (h : Here goal) (o : _) →
        searches same book used₀ lim 1 h.spot h.below count ≡ ended h.spot o →
        EndsAs same book goals used₀ cells₀ lim o cells
    ends goal h o e =
        let w = h.leads 1 _ e in
        record { turns = w.0; ended = record { outcome = o; last = h.spot }; is = w.1; outcome = refl; last = h.represents.lying }

    -- nothing is pending
    pub at_granted : (h : Here None) → EndsAs same book goals used₀ cells₀ lim (granted count h.spot.point.steps) cells
    at_granted h = ends None h _ (turn_granted same book used₀ lim h.spot h.below count 0 h.represents.facing)

    module _ (goal : Goal) (h : Here (Some goal)) where
      abbrev u : Current book goals frames goal h.spot.point.at.pending
      u = h.represents.facing.0

      -- no try is left
      module _ (none : NextTry book goal.inner c None) (short : n ≤ 4096) where
        left_none : h.spot.point.left ≡ []
        left_none = no_try book frames n goal.inner u.chain short c h.spot.point.left h.represents.facing.2 none

        -- and no step stands
        pub at_failed : n ≡ 0 → EndsAs same book goals used₀ cells₀ lim (failed count) cells
        at_failed z =
            ends (Some goal) h _ (turn_failed same book used₀ lim h.spot h.below count 0 u.first u.rest u.list
            left_none (nothing h.below h.represents.stack))
          where
            nothing : (below : List (Spot V)) → Stacked book goals used₀ cells₀ frames n cells trail below → below ≡ []
            nothing [] k = refl
            nothing (q ∷ qs) k = let e : n ≡ suc k.0 = k.2 in absurd (omega arith)

        -- the latest step is taken back
        pub at_back : (m : ℕ) (f : Frame) → n ≡ suc m → slice_get frames m ≡ Some f →
            Searching same book goals used₀ cells₀ lim frames m (Some f.goal) (cursor_after frames f.step) count
            (take f.used (clear (drop f.trail trail) cells)) (take f.trail trail)
        at_back m f e at =
            let w = top_under book goals used₀ cells₀ frames n cells trail h.below h.represents.stack m f e at in
            let q : Spot V = w.0 in
            let qs : List (Spot V) = w.1 in
            let under : Under book goals used₀ cells₀ frames m f q cells trail = w.3 in
            let here : Represents book goals used₀ cells₀ frames m (Some f.goal) (cursor_after frames f.step) q.cells
            (take f.trail trail) q qs =
            record {
              lying = refl;
              level = under.level;
              facing = (under.goal, under.lower, under.left);
              stack = w.4;
            } in
            record {
              spot = q;
              below = qs;
              represents = subst (λ cs. Represents book goals used₀ cells₀ frames m (Some f.goal)
                  (cursor_after frames f.step) cs (take f.trail trail) q qs) under.are here;
              leads = λ k z p. h.leads (suc k) z
                  (turn_back same book used₀ lim h.spot h.below count k u.first u.rest u.list left_none q qs w.2 ∙ p);
            }

      -- a try is left
      module _ (x : Step) (some : NextTry book goal.inner c (Some x)) (short : n ≤ 4096) where
        abbrev pub next : NextLeft book frames n goal.inner u.chain h.spot.point.left x
        next = next_left book frames n goal.inner u.chain short c h.spot.point.left h.represents.facing.2 x some

        -- the budget is spent
        pub at_spent : count ≡ lim.budget → EndsAs same book goals used₀ cells₀ lim (spent count) cells
        at_spent e =
            ends (Some goal) h _ (turn_spent same book used₀ lim h.spot h.below count 0 u.first u.rest u.list
            (step_of x) next.others next.is e)

        module _ (more : count ≡ lim.budget → ⊥) where
          -- the record list is full
          pub at_full : lim.room ≤ n → EndsAs same book goals used₀ cells₀ lim (full count) cells
          at_full e =
              ends (Some goal) h _ (turn_full same book used₀ lim h.spot h.below count 0 u.first u.rest u.list
              (step_of x) next.others next.is more (subst (λ k. lim.room ≤ k) (sym h.represents.level.recorded) e))

          module _ (free : n < lim.room) (k : ℕ) (mid : List (Cell V)) (b : ℕ)
              (onto : Onto same book used₀ n h.spot.point.at cells goal u.first u.rest x k mid b) where
            room : length h.spot.point.steps < lim.room
            room = subst (λ j. j < lim.room) (sym h.represents.level.recorded) free

            -- the instance does not fit
            pub at_short : lim.free < h.spot.point.at.cells + k → EndsAs same book goals used₀ cells₀ lim (Rattle.theory.specs.Search.short count) cells
            at_short e =
                ends (Some goal) h _ (turn_short same book used₀ lim h.spot h.below count 0 u.first u.rest u.list
                (step_of x) next.others next.is more room onto.next onto.on
                (subst (λ j. lim.free < j) (sym onto.number) e))

            module _ (fits : h.spot.point.at.cells + k ≤ lim.free) (t : State V) where
              fit : onto.next.cells ≤ lim.free
              fit = subst (λ j. j ≤ lim.free) (sym onto.number) fits

              tried_here : attempt same book used₀ h.spot.cells h.spot.point.at u.first x.mode x.number
                  ≡ unify same mid goal.cell b
              tried_here =
                  ap (λ cs. attempt same book used₀ cs h.spot.point.at u.first x.mode x.number)
                  h.represents.lying ∙ onto.tried

              -- the point once this try is behind it
              left_behind : Spot V
              left_behind = spot (without h.spot.point next.others) h.spot.cells

              -- the try falls
              pub at_falls : unify same mid goal.cell b ≡ Move.clash t →
                  Searching same book goals used₀ cells₀ lim frames n (Some goal) (cursor_after frames x) (suc count) cells trail
              unfolding left_behind
              at_falls e = record {
                spot = left_behind;
                below = h.below;
                represents = record {
                  lying = h.represents.lying;
                  level = h.represents.level;
                  facing = (u, h.represents.facing.1, next.leaves);
                  stack = h.represents.stack;
                };
                leads = λ j z p. h.leads (suc j) z
                    (turn_falls same book used₀ lim h.spot h.below count j u.first u.rest u.list
                    (step_of x) next.others next.is more room onto.next onto.on fit t (tried_here ∙ e) ∙ p);
              }

              -- the try stands
              module _ (stands : unify same mid goal.cell b ≡ Move.went t) (rules : ∥ BookRules book ∥₁)
                  (low : AllByRecursion (λ g. g < used₀) goals) (few : length cells ≤ 2048)
                  (new : List Frame) (agree : Agree n frames new) (long : n < length new) (fu ft : ℕ)
                  (at : slice_get new n ≡ Some (record { goal = goal; step = x; used = fu; trail = ft })) (f_used : fu ≡ length cells)
                  (f_trail : ft ≡ length trail)
                  (mid_number : length mid ≡ length cells + k) (mid_front : take (length cells) mid ≡ cells)
                  (mid_unjoined : unjoined mid ≡ unjoined cells + k) (on : WentOn mid t)
                  (goal' : Option Goal) (found : NextGoal book goals new (Some n) 0 goal') where
                abbrev f : Frame
                f = record { goal = goal; step = x; used = fu; trail = ft }

                lower : above goal.parent ≤ n
                lower = h.represents.facing.1

                up : Level book goals used₀ cells₀ new (suc n) onto.next (h.spot.point.steps ++ (step_of x ∷ []))
                    t.cells (trail ++ t.trail)
                up =
                    pushed book rules goals used₀ cells₀ low frames n h.spot.point.at h.spot.point.steps cells trail
                    h.represents.level goal u lower few new agree long x f at refl refl f_used onto.next k
                    onto.taken onto.offsets onto.number (onto.end f refl f_used)
                    mid mid_number mid_front mid_unjoined t on

                -- what pends after the step
                pends : Pends book goals new (n ∷ u.chain) (Some n) 0 onto.next.pending
                pends =
                    pends_new book rules goals used₀ cells₀ low frames n h.spot.point.at h.spot.point.steps cells trail
                    h.represents.level goal u lower few new agree long x f at refl refl f_used onto.next k
                    onto.taken onto.offsets onto.number (onto.end f refl f_used) (onto.pending f refl)

                -- the new goal is faced with all its tries
                faced : (g : Option Goal) → First book goals new (Some n) g onto.next.pending → (c' : Cursor) →
                    ((y : Goal) → g ≡ Some y → c' ≡ first_cursor y) →
                    Facing book goals used₀ cells₀ new (suc n) g c' onto.next.pending (tries book onto.next.pending)
                faced None w c' e = w
                faced (Some y) w c' e = (
                  w.0,
                  w.1,
                  subst (λ d. Leftover book new (suc n) y.inner w.0.chain d (tries book onto.next.pending))
                      (sym (e y refl)) (all_left book goals new (suc n) y onto.next.pending w.0 w.1),
                )

                again : take ft (trail ++ t.trail) ≡ trail
                again =
                    ap (λ j. take j (trail ++ t.trail)) f_trail
                    ∙ trail_again book rules goals used₀ cells₀ low frames n h.spot.point.at h.spot.point.steps cells trail
                    h.represents.level goal u lower few new agree long x f at refl refl f_used onto.next k
                    onto.taken onto.offsets onto.number (onto.end f refl f_used)
                    mid mid_number mid_front mid_unjoined t on

                -- the point is below the new step
                under : Under book goals used₀ cells₀ new n f left_behind t.cells (trail ++ t.trail)
                unfolding left_behind current_agree
                under =
                    let r : Replay V = h.spot.point.at in
                    let xs : List T.Step = h.spot.point.steps in
                    let own : Level book goals used₀ cells₀ new n r xs cells trail =
                    level_agree n frames new agree book goals used₀ cells₀ (omega arith) n (le_refl n) r xs cells trail
                    h.represents.level in
                    let behind : cells ≡ take fu (clear (drop ft (trail ++ t.trail)) t.cells) =
                    back_again book rules goals used₀ cells₀ low frames n h.spot.point.at h.spot.point.steps cells trail
                    h.represents.level goal u lower few new agree long x f at refl refl f_used onto.next k
                    onto.taken onto.offsets onto.number (onto.end f refl f_used)
                    mid mid_number mid_front mid_unjoined t on
                    ∙ sym (λ i. take (f_used i) (clear (drop (f_trail i) (trail ++ t.trail)) t.cells)) in
                    record {
                      level =
                          subst (λ l. Level book goals used₀ cells₀ new n r xs h.spot.cells l) (sym again)
                          (subst (λ cs. Level book goals used₀ cells₀ new n r xs cs trail) (sym h.represents.lying) own);
                      goal = current_agree n frames new agree book goals goal r.pending lower u;
                      lower = lower;
                      left =
                          subst (λ d. Leftover book new n goal.inner u.chain d next.others)
                          (sym (cursor_agree n frames new agree x next.named))
                          (leftover_agree n frames new agree book goals n (le_refl n) goal.inner u.chain
                          (cursor_after frames x) next.others next.leaves);
                      named = next.named;
                      used = ap length h.represents.lying ∙ sym f_used;
                      joins = omega (arith, length-append trail t.trail);
                      are = h.represents.lying ∙ behind;
                    }

                -- the search goes on above the new step
                pub at_stands : (c' : Cursor) → ((y : Goal) → goal' ≡ Some y → c' ≡ first_cursor y) →
                    Searching same book goals used₀ cells₀ lim new (suc n) goal' c' (suc count) t.cells (trail ++ t.trail)
                unfolding left_behind
                at_stands c' first = record {
                  spot = spot (onward book h.spot.point (step_of x) onto.next) t.cells;
                  below = left_behind ∷ h.below;
                  represents = record {
                    lying = refl;
                    level = up;
                    facing = faced goal' (found (n ∷ u.chain) onto.next.pending pends) c' first;
                    stack = (
                      n,
                      f,
                      refl,
                      at,
                      under,
                      subst (λ l. Stacked book goals used₀ cells₀ new n h.spot.cells l h.below) (sym again)
                          (subst (λ cs. Stacked book goals used₀ cells₀ new n cs trail h.below) (sym h.represents.lying)
                          (stacked_agree n frames new agree book goals used₀ cells₀ (omega arith) h.below n (le_refl n) cells
                          trail h.represents.stack)),
                    );
                  };
                  leads = λ j z p. h.leads (suc j) z
                      (turn_stands same book used₀ lim h.spot h.below count j u.first u.rest u.list
                      (step_of x) next.others next.is more room onto.next onto.on fit t (tried_here ∙ stands) ∙ p);
                }
