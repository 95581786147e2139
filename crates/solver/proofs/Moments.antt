-- One turn of a search on the lists that it was lent.
use Rattle.std.proofs.Common.{◌≡◌, ℕ, suc, ◌+◌, ◌-◌, ◌*◌, ◌<◌, ◌≤◌, Bool, true, false, cond, eqb, List, [], length, get_or, take, Some, None, Err, Option, sym, refl, ap, ◌∙◌, subst, inl, inr, add-one, arith, length-take, Decides as Tells}
use mathlib.Core.Logic.{∥∥₁_elim}
use native.Mathlib.Bridge.{le_prop}
use Rattle.std.specs.List.{slice_get, AllByRecursion}
use Rattle.std.proofs.lemmas.Option.{slice_get-get_or}
use Rattle.std.proofs.lemmas.Bool.{eq-eqb, ne_eqb}
use Rattle.theory.specs.Entries.{Entry, EntryRules, BookRules, PartsRules}
use Rattle.theory.specs.Records.{Replay}
use Rattle.theory.proofs.Elements.{all_nth}
use Rattle.unify.specs.Cells as C
use Rattle.unify.specs.Cells.{unjoined}
use Rattle.unify.specs.Solved.{Solved}
use Rattle.unify.specs.Unify.{State, Move, unify}
use Rattle.unify.specs.Theorems.{Decides}
use Rattle.cells.proofs.Sameness.{decided}
use Rattle.unify.specs.Steady.{WentOn}
use Rattle.unify.proofs.Running.{went_on}
use Rattle.searching.specs.Trying.{copied}
use Rattle.cells.specs.declared.cell.Cell.{Cell}
use Rattle.calls.specs.declared.step.Step.{Step}
use Rattle.attempts.specs.declared.extent.Extent.{Extent}
use Rattle.attempts.specs.Attempts.{parts_in, parts_at}
use Rattle.attempts.proofs.Rules.{entry_parts, is_there}
use Rattle.attempts.proofs.Copying.{length_copied, copied_front, copied_solved}
use Rattle.frames.specs.declared.frame.Goal.{Goal}
use Rattle.frames.specs.declared.frame.Frame.{Frame}
use Rattle.frames.specs.declared.frame.Cursor.{Cursor}
use Rattle.frames.specs.Goals.{above, Current}
use Rattle.frames.specs.Tries.{mode_of, cursor_after, NextTry, first_cursor, Allowed}
use Rattle.frames.specs.Levels.{size_of, end_of, Level}
use Rattle.frames.specs.Points.{Searching, EndsAs}
use Rattle.frames.proofs.Following.{unset, nth_inside}
use Rattle.frames.proofs.Pushing.{goal_inside, end_after}
use Rattle.frames.proofs.Starting.{unjoined_copied}
use Rattle.frames.proofs.Turning.{Onto, entry_onto, loop_onto, next, at_spent, at_full, at_short, at_falls, at_stands}
use Rattle.solver.specs.Standing.{Standing, Moment}
use Rattle.solver.specs.declared.bounds.Bounds.{Bounds}
use Rattle.solver.specs.declared.ending.Ending.TheVariants.{Spent, Full, Short}
use Rattle.solver.specs.Steps.{head_in, goal_cell, size_at, parts_for, target, Formed, Takeable, Stepped}
use Rattle.solver.specs.declared.search.Search.{Search}
use Rattle.solver.specs.Derivations.{moment_of, SearchRuns}
use Rattle.solver.specs.Searching.{turns_left, limits_of, in_use, Ground, Filled, Running, Finished, Facing}
use Rattle.solver.proofs.Stepping.{in_use_number}

-- the mode by which a goal takes an entry closes no loop
apart : (inner : Bool) → mode_of inner ≡ 2 → ⊥
apart true e = omega arith
apart false e = omega arith

module _ {L : Type 0} (alike : L → L → Bool) (law : Decides alike) (book : List (Entry L)) (rules : ∥ BookRules book ∥₁)
    (goals : List ℕ) (used₀ : ℕ) (cells₀ : List (C.Cell L)) (low : AllByRecursion (λ g. g < used₀) goals) (frames : List Frame)
    (n : ℕ) (r : Replay L) (steps : List _) (cells : List (C.Cell L)) (trail : List ℕ)
    (level : Level book goals used₀ cells₀ frames n r steps cells trail) (goal : Goal)
    (u : Current book goals frames goal r.pending) (lower : above goal.parent ≤ n) (x : Step)
    (may : Allowed book frames n goal.inner u.chain x) where
  -- the cells with the instance of the step
  abbrev pub mid : List (C.Cell L)
  mid = copied (λ j. length cells + j) cells (parts_for book x)

  -- the frame of a step that stands
  frame_there : (s : ℕ) → s < n → (f : Frame) × (slice_get frames s ≡ Some f)
  frame_there s h =
      (get_or frames s unset, slice_get-get_or frames s unset (let k : n ≤ length frames = level.framed in omega arith))

  -- what the step comes to by the definitions
  pub onto : Onto alike book used₀ n r cells goal u.first u.rest x (size_at book x) mid (target book frames (length cells) x)
  unfolding copied
  onto = go may
    where
      go : Allowed book frames n goal.inner u.chain x →
          Onto alike book used₀ n r cells goal u.first u.rest x (size_at book x) mid (target book frames (length cells) x)
      go (inl (m, i, p, h)) =
          let f : Frame = (frame_there x.number h).0 in
          let at : slice_get frames x.number ≡ Some f = (frame_there x.number h).1 in
          let two : eqb x.mode 2 ≡ true = eq-eqb x.mode 2 m in
          let s : 0 ≡ size_at book x = sym (ap (λ b. cond b 0 (size_of (slice_get book x.number))) two) in
          let q : cells ≡ mid =
          sym (ap (λ b. copied (λ j. length cells + j) cells (cond b [] (parts_at book x.number))) two) in
          let b : f.goal.cell ≡ target book frames (length cells) x =
          sym (ap (λ t. cond t (goal_cell (slice_get frames x.number)) (length cells + head_in (slice_get book x.number))) two
          ∙ ap goal_cell at) in
          subst (λ k. Onto alike book used₀ n r cells goal u.first u.rest x k mid (target book frames (length cells) x)) s
          (subst (λ cs. Onto alike book used₀ n r cells goal u.first u.rest x 0 cs (target book frames (length cells) x)) q
          (subst (Onto alike book used₀ n r cells goal u.first u.rest x 0 cells) b
          (loop_onto alike book goals used₀ cells₀ frames n r steps cells trail level goal u lower x m i p h f at)))
      go (inr (m, t)) =
          let not : eqb x.mode 2 ≡ false = ne_eqb x.mode 2 (λ z. apart goal.inner (sym m ∙ z)) in
          let s : length t.entry.parts ≡ size_at book x =
          sym (ap (λ b. cond b 0 (size_of (slice_get book x.number))) not ∙ ap size_of t.found) in
          let q : copied (λ j. length cells + j) cells t.entry.parts ≡ mid =
          sym (ap (λ b. copied (λ j. length cells + j) cells (cond b [] (parts_at book x.number))) not
          ∙ ap (λ o. copied (λ j. length cells + j) cells (parts_in o)) t.found) in
          let b : length cells + t.entry.head ≡ target book frames (length cells) x =
          sym (ap (λ t. cond t (goal_cell (slice_get frames x.number)) (length cells + head_in (slice_get book x.number))) not
          ∙ ap (λ o. length cells + head_in o) t.found) in
          subst (λ k. Onto alike book used₀ n r cells goal u.first u.rest x k mid (target book frames (length cells) x)) s
          (subst (λ cs. Onto alike book used₀ n r cells goal u.first u.rest x (length t.entry.parts) cs
          (target book frames (length cells) x)) q
          (subst (Onto alike book used₀ n r cells goal u.first u.rest x (length t.entry.parts)
          (copied (λ j. length cells + j) cells t.entry.parts)) b
          (entry_onto alike book goals used₀ cells₀ frames n r steps cells trail level goal u lower x t m
          (λ z. apart goal.inner (sym m ∙ z)))))

  -- an instance has as many cells as the step needs
  size_is : (b : Bool) → length (cond b [] (parts_at book x.number)) ≡ cond b 0 (size_of (slice_get book x.number))
  size_is true = refl
  size_is false = go (slice_get book x.number)
    where
      go : (o : Option (Entry L)) → length (parts_in o) ≡ size_of o
      go None = refl
      go (Some e) = refl

  pub mid_number : length mid ≡ length cells + size_at book x
  mid_number =
      length_copied (λ j. length cells + j) (parts_for book x) cells
      ∙ ap (λ k. length cells + k) (size_is (eqb x.mode 2))

  pub mid_front : take (length cells) mid ≡ cells
  mid_front = copied_front (λ j. length cells + j) (parts_for book x) cells

  pub mid_unjoined : unjoined mid ≡ unjoined cells + size_at book x
  mid_unjoined =
      unjoined_copied (λ j. length cells + j) (parts_for book x) cells
      ∙ ap (λ k. unjoined cells + k) (size_is (eqb x.mode 2))

  pub mid_solved : length cells + size_at book x ≤ 2048 → Solved mid
  mid_solved few =
      copied_solved (length cells) (parts_for book x) 0 cells level.solved (omega arith) (keeps (eqb x.mode 2))
      (let e : length (parts_for book x) ≡ size_at book x = size_is (eqb x.mode 2) in omega arith)
    where
      keeps : (b : Bool) → PartsRules 0 (cond b [] (parts_at book x.number))
      keeps true = tt
      keeps false = entry_parts book rules x.number

  -- the step is of a form that can be tried
  pub formed : Formed book frames (length cells) x
  formed = go may
    where
      go : Allowed book frames n goal.inner u.chain x → Formed book frames (length cells) x
      go (inl (m, i, p, h)) =
          let f : Frame = (frame_there x.number h).0 in
          let at : slice_get frames x.number ≡ Some f = (frame_there x.number h).1 in
          let t = level.tells x.number f at h in
          let k : f.goal.cell < f.used = t.link.goal in
          let e : end_of book f ≤ length cells = t.end in
          let a : f.used ≤ end_of book f = end_after book rules goals used₀ cells₀ low f in
          inl (m, f, at, omega arith)
      go (inr (m, t)) = inr ((λ z. apart goal.inner (sym m ∙ z)), t.entry, t.found)

  -- the goal and what it is unified with lie in the cells
  pub goal_low : goal.cell < length cells
  goal_low = goal_inside book rules goals used₀ cells₀ low frames n r steps cells trail level goal lower u

  target_low : target book frames (length cells) x < length cells + size_at book x
  target_low = go formed
    where
      go : Formed book frames (length cells) x → target book frames (length cells) x < length cells + size_at book x
      go (inl (m, f, at, h)) =
          let b : target book frames (length cells) x ≡ f.goal.cell =
          ap (λ t. cond t (goal_cell (slice_get frames x.number)) (length cells + head_in (slice_get book x.number)))
          (eq-eqb x.mode 2 m) ∙ ap goal_cell at in
          omega arith
      go (inr (m, e, at)) =
          let not : eqb x.mode 2 ≡ false = ne_eqb x.mode 2 m in
          let s : size_at book x ≡ length e.parts =
          ap (λ b. cond b 0 (size_of (slice_get book x.number))) not ∙ ap size_of at in
          let b : target book frames (length cells) x ≡ length cells + e.head =
          ap (λ t. cond t (goal_cell (slice_get frames x.number)) (length cells + head_in (slice_get book x.number))) not
          ∙ ap (λ o. length cells + head_in o) at in
          let h : e.head < length e.parts =
          ∥∥₁_elim rules le_prop (λ z.
          let q = is_there (slice_get e.parts e.head) (all_nth EntryRules book x.number e z.entries at).head in
          nth_inside e.parts e.head q.0 q.1) in
          omega arith

  -- where the step stands, what it joined can be taken back
  pub stood : length cells + size_at book x ≤ 2048 → (s : State L) →
      unify alike mid goal.cell (target book frames (length cells) x) ≡ Move.went s → WentOn mid s
  stood few s e =
      went_on alike law mid (mid_solved few) goal.cell (target book frames (length cells) x)
      (let a : goal.cell < length cells = goal_low in let b : length mid ≡ length cells + size_at book x = mid_number in omega arith)
      (let a : target book frames (length cells) x < length cells + size_at book x = target_low in
      let b : length mid ≡ length cells + size_at book x = mid_number in omega arith) s e

module _ {B L : Type 0} (alike : L → L → Bool) (decides : (x y : L) → Tells (alike x y) (x ≡ y)) (entries : B → List (Entry L))
    (rules_of : (x : B) → ∥ BookRules (entries x) ∥₁) (s : Search B L) (cells₀ : List (C.Cell L))
    (run : SearchRuns alike (entries s.derivation.now.book.now) cells₀ s) where
  law : Decides alike
  law = decided alike decides

  abbrev book : List (Entry L)
  book = entries s.derivation.now.book.now

  rules : ∥ BookRules book ∥₁
  rules = rules_of s.derivation.now.book.now

  abbrev goals : List ℕ
  goals = s.derivation.now.goals.now

  abbrev b : Bounds
  b = s.bounds

  abbrev cells : List (Cell L)
  cells = s.derivation.now.store.now.cells.now

  abbrev work : List ℕ
  work = s.derivation.now.store.now.work.now

  abbrev frames : List Frame
  frames = s.derivation.now.frames.now

  abbrev m : Moment
  m = moment_of s

  abbrev x₀ : Extent
  x₀ = m.at.extent

  abbrev cs : List (C.Cell L)
  cs = in_use cells x₀

  abbrev ts : List ℕ
  ts = take x₀.trail work

  pub used_fits : x₀.used ≤ length cells
  used_fits = let h : x₀.used ≤ b.cells = run.filled.used in let k : b.cells ≤ length cells = run.basis.fits in omega arith

  pub number : length cs ≡ x₀.used
  number = in_use_number x₀.used cells used_fits

  pub trail_number : length ts ≡ x₀.trail
  trail_number = let h : x₀.trail ≤ length work = run.filled.room in omega (arith, length-take x₀.trail work)

  pub trail_low : x₀.trail ≤ x₀.used
  trail_low =
      let h : unjoined cs + length ts ≤ length cs = run.searching.represents.level.room in
      let e : length ts ≡ x₀.trail = trail_number in
      let q : length cs ≡ x₀.used = number in
      omega arith

  pub short : m.at.depth ≤ 4096
  short = let h : m.at.depth ≤ b.steps = run.depth in let k : b.steps ≤ 4096 = run.basis.short in omega arith

  -- a search where it stands, by other names for the same
  moved : {fs fs' : List Frame} {k k' : ℕ} {g g' : Option Goal} {c c' : Cursor} {ds ds' : List (C.Cell L)} {us us' : List ℕ} →
      fs ≡ fs' → k ≡ k' → g ≡ g' → c ≡ c' → ds ≡ ds' → us ≡ us' →
      Searching alike book goals b.first cells₀ (limits_of b) fs k g c (suc m.count) ds us →
      Searching alike book goals b.first cells₀ (limits_of b) fs' k' g' c' (m.count + 1) ds' us'
  moved {fs} {fs'} {k} {k'} {g} {g'} {c} {c'} {ds} {ds'} {us} {us'} p q r v w y z =
      let S : List Frame → ℕ → Option Goal → Cursor → ℕ → List (C.Cell L) → List ℕ → Type 0 =
      Searching alike book goals b.first cells₀ (limits_of b) in
      subst (λ a. S a k' g' c' (m.count + 1) ds' us') p
      (subst (λ a. S fs a g' c' (m.count + 1) ds' us') q
      (subst (λ a. S fs k a c' (m.count + 1) ds' us') r
      (subst (λ a. S fs k g a (m.count + 1) ds' us') v
      (subst (λ a. S fs k g c (m.count + 1) a us') w
      (subst (λ a. S fs k g c (m.count + 1) ds a) y
      (subst (λ a. S fs k g c a ds us) (sym (add-one m.count)) z))))))

  -- how the search has ended, with nothing altered
  pub finished : (e : _) →
      EndsAs alike book goals b.first cells₀ (limits_of b)
      (Rattle.solver.specs.Searching.outcome_of e m.count
      (Rattle.solver.specs.Searching.frame_steps (take m.at.depth frames))) cs →
      Finished alike book goals b cells₀ cells work frames m e
  finished e ends = record {
    basis = run.basis;
    filled = run.filled;
    depth = run.depth;
    ends = ends;
    replay = run.searching.spot.point.at;
    steps = run.searching.spot.point.steps;
    level = run.searching.represents.level;
  }

  module _ (goal : Goal) (taken : m.at.goal ≡ Some goal) where
    -- the search at its goal
    pub here : Searching alike book goals b.first cells₀ (limits_of b) frames m.at.depth (Some goal) m.cursor m.count cs ts
    here = subst (λ g. Searching alike book goals b.first cells₀ (limits_of b) frames m.at.depth g m.cursor m.count cs ts)
        taken run.searching

    module _ (x : Step) (some : NextTry book goal.inner m.cursor (Some x)) where
      abbrev n₀ : ℕ
      n₀ = m.at.depth

      abbrev r₀ : Replay L
      r₀ = here.spot.point.at

      abbrev u₀ : Current book goals frames goal r₀.pending
      u₀ = here.represents.facing.0

      abbrev lower₀ : above goal.parent ≤ n₀
      lower₀ = here.represents.facing.1

      may : Allowed book frames n₀ goal.inner u₀.chain x
      may = (next alike book goals b.first cells₀ (limits_of b) frames n₀ m.cursor m.count cs ts goal here x some short).allowed

      -- what the try comes to by the definitions
      on : Onto alike book b.first n₀ r₀ cs goal u₀.first u₀.rest x (size_at book x)
          (copied (λ j. length cs + j) cs (parts_for book x)) (target book frames (length cs) x)
      on = onto alike law book rules goals b.first cells₀ run.basis.low frames n₀ r₀ here.spot.point.steps cs ts
          here.represents.level goal u₀ lower₀ x may

      -- the budget is spent
      pub spent : m.count ≡ b.budget → Finished alike book goals b cells₀ cells work frames m (Err Spent)
      spent e =
          finished (Err Spent) (at_spent alike book goals b.first cells₀ (limits_of b) frames n₀ m.cursor m.count cs ts goal here x
          some short e)

      module _ (more : m.count ≡ b.budget → ⊥) where
        -- the record list is full
        pub full : n₀ ≡ b.steps → Finished alike book goals b cells₀ cells work frames m (Err Full)
        full e =
            finished (Err Full) (at_full alike book goals b.first cells₀ (limits_of b) frames n₀ m.cursor m.count cs ts goal here x
            some short more (omega arith))

        module _ (free : n₀ ≡ b.steps → ⊥) where
          below : n₀ < b.steps
          below = let h : n₀ ≤ b.steps = run.depth in omega arith

          cells_are : x₀.used ≡ b.first + r₀.cells
          cells_are = sym number ∙ here.represents.level.number

          -- the free cells are too few
          pub scarce : b.cells - x₀.used < size_at book x → Finished alike book goals b cells₀ cells work frames m (Err Short)
          scarce e =
              finished (Err Short) (at_short alike book goals b.first cells₀ (limits_of b) frames n₀ m.cursor m.count cs ts goal
              here x some short more below (size_at book x) (copied (λ j. length cs + j) cs (parts_for book x))
              (target book frames (length cs) x) on
              (let h : x₀.used ≡ b.first + r₀.cells = cells_are in
              let k : x₀.used ≤ b.cells = run.filled.used in
              omega arith))

          module _ (enough : size_at book x ≤ b.cells - x₀.used) where
            whole : x₀.used + size_at book x ≤ b.cells
            whole = let k : x₀.used ≤ b.cells = run.filled.used in omega arith

            few : length cs + size_at book x ≤ 2048
            few =
                let h : x₀.used + size_at book x ≤ b.cells = whole in
                let k : b.cells ≤ 2048 = run.basis.few in
                let e : length cs ≡ x₀.used = number in
                omega arith

            -- the instance fits into the free cells
            fits : r₀.cells + size_at book x ≤ b.cells - b.first
            fits =
                let h : x₀.used + size_at book x ≤ b.cells = whole in
                let e : x₀.used ≡ b.first + r₀.cells = cells_are in
                omega arith

            -- the step can be taken
            pub takeable : Takeable book goals cells work frames m.at goal x
            takeable =
                let h : x₀.used + size_at book x ≤ b.cells = whole in
                let e : length cs ≡ x₀.used = number in
                let i : goal.cell < length cs =
                goal_low alike law book rules goals b.first cells₀ run.basis.low frames n₀ r₀ here.spot.point.steps cs ts
                here.represents.level goal u₀ lower₀ x may in
                let low : x₀.trail ≤ x₀.used = trail_low in
                let g1 : b.cells ≤ length cells = run.basis.fits in
                let g2 : b.cells ≤ 2048 = run.basis.few in
                let g3 : 2 * b.cells ≤ length work = run.basis.long in
                let g4 : b.steps ≤ length frames = run.basis.framed in
                let g5 : b.steps ≤ 4096 = run.basis.short in
                let g6 : n₀ < b.steps = below in
                record {
                  pending = r₀.pending;
                  current = u₀;
                  lower = lower₀;
                  few_goals = run.basis.few_goals;
                  room = omega arith;
                  few_steps = omega arith;
                  try = record {
                    formed = subst (λ k. Formed book frames k x) number
                        (formed alike law book rules goals b.first cells₀ run.basis.low frames n₀ r₀ here.spot.point.steps
                        cs ts here.represents.level goal u₀ lower₀ x may);
                    tryable = record {
                      sound = run.filled.sound;
                      fits = omega arith;
                      few = omega arith;
                      room = omega arith;
                      inside = omega arith;
                    };
                  };
                  trail = omega arith;
                }

            module _ (cells' : List (Cell L)) (work' : List ℕ) (frames' : List Frame) (at' : Standing) where
              abbrev cs' : List (C.Cell L)
              cs' = in_use cells' at'.extent

              abbrev ts' : List ℕ
              ts' = take at'.extent.trail work'

              -- the lists are as long as they were
              basis' : length cells' ≡ length cells → length work' ≡ length work → length frames' ≡ length frames →
                  Ground goals b cells' work' frames'
              basis' p q w = record {
                few_goals = run.basis.few_goals;
                low = run.basis.low;
                begin = run.basis.begin;
                fits = let h : b.cells ≤ length cells = run.basis.fits in omega arith;
                few = run.basis.few;
                long = let h : 2 * b.cells ≤ length work = run.basis.long in omega arith;
                framed = let h : b.steps ≤ length frames = run.basis.framed in omega arith;
                short = run.basis.short;
              }

              -- the step falls
              pub after_fall : Stepped alike book goals goal x false cells work frames m.at cells' work' frames' at' → (c : Cursor) →
                  c ≡ cursor_after frames' x →
                  Running alike book goals b cells₀ cells' work' frames' (record { at = at'; cursor = c; count = m.count + 1 }) ×
                  (turns_left b (record { at = at'; cursor = c; count = m.count + 1 }) < turns_left b m)
              after_fall st c e =
                  let fe : frames' ≡ frames = st.taken.0 in
                  let ae : at' ≡ m.at = st.taken.1 in
                  let one : m.count < b.budget = (let h : m.count ≤ b.budget = run.count in omega arith) in
                  let t : State L = st.tried.tried.0.0 in
                  let same : at'.depth ≡ m.at.depth = ap (λ (z : Standing). z.depth) ae in (
                    record {
                      basis = basis' st.tried.as_many st.tried.as_long st.as_long;
                      filled = record {
                        sound = st.tried.sound;
                        used = subst (λ (z : Standing). z.extent.used ≤ b.cells) (sym ae) run.filled.used;
                        room = st.tried.room;
                      };
                      depth = subst (λ (z : Standing). z.depth ≤ b.steps) (sym ae) run.depth;
                      count = omega arith;
                      searching =
                          moved (sym fe) (ap (λ (z : Standing). z.depth) (sym ae))
                          (sym (ap (λ (z : Standing). z.goal) ae ∙ taken)) (sym (e ∙ ap (λ f. cursor_after f x) fe))
                          (sym st.tried.tried.1) (sym st.tried.tried.2)
                          (at_falls alike book goals b.first cells₀ (limits_of b) frames n₀ m.cursor m.count cs ts goal
                          here x some short more below (size_at book x) (copied (λ j. length cs + j) cs (parts_for book x))
                          (target book frames (length cs) x) on fits t
                          (ap (λ k. unify alike (copied (λ j. length cs + j) cs (parts_for book x)) goal.cell (target book frames k x))
                          number ∙ st.tried.tried.0.1));
                    },
                    omega arith,
                  )

              -- the step stands
              pub after_step : Stepped alike book goals goal x true cells work frames m.at cells' work' frames' at' → (c : Cursor) →
                  ((y : Goal) → at'.goal ≡ Some y → c ≡ first_cursor y) →
                  Running alike book goals b cells₀ cells' work' frames' (record { at = at'; cursor = c; count = m.count + 1 }) ×
                  (turns_left b (record { at = at'; cursor = c; count = m.count + 1 }) < turns_left b m)
              after_step st c e =
                  let one : m.count < b.budget = (let h : m.count ≤ b.budget = run.count in omega arith) in
                  let t : State L = st.tried.tried.0 in
                  let stands : unify alike (copied (λ j. length cs + j) cs (parts_for book x)) goal.cell
                  (target book frames (length cs) x) ≡ Move.went t =
                  ap (λ k. unify alike (copied (λ j. length cs + j) cs (parts_for book x)) goal.cell (target book frames k x))
                  number ∙ st.tried.tried.1 in
                  let up : WentOn (copied (λ j. length cs + j) cs (parts_for book x)) t =
                  stood alike law book rules goals b.first cells₀ run.basis.low frames n₀ r₀ here.spot.point.steps cs ts
                  here.represents.level goal u₀ lower₀ x may few t stands in
                  let size : length (copied (λ j. length cs + j) cs (parts_for book x)) ≡ length cs + size_at book x =
                  mid_number alike law book rules goals b.first cells₀ run.basis.low frames n₀ r₀ here.spot.point.steps cs
                  ts here.represents.level goal u₀ lower₀ x may in
                  let now : at'.extent.used ≡ x₀.used + size_at book x =
                  sym (in_use_number at'.extent.used cells' st.tried.fits)
                  ∙ (ap length st.tried.tried.2 ∙ (up.number ∙ (size ∙ ap (λ k. k + size_at book x) number))) in
                  let depth : at'.depth ≡ suc n₀ = st.taken.2 in (
                    record {
                      basis = basis' st.tried.as_many st.tried.as_long st.as_long;
                      filled = record {
                        sound = st.tried.sound;
                        used = let h : x₀.used + size_at book x ≤ b.cells = whole in omega arith;
                        room = st.tried.room;
                      };
                      depth = let h : n₀ < b.steps = below in omega arith;
                      count = omega arith;
                      searching =
                          moved refl (sym depth) refl refl (sym st.tried.tried.2) (sym st.tried.tried.3)
                          (at_stands alike book goals b.first cells₀ (limits_of b) frames n₀ m.cursor m.count cs ts goal
                          here x some short more below (size_at book x) (copied (λ j. length cs + j) cs (parts_for book x))
                          (target book frames (length cs) x) on fits t stands rules run.basis.low
                          (let h : length cs + size_at book x ≤ 2048 = few in omega arith) frames' st.taken.0
                          (let h : n₀ < b.steps = below in let k : b.steps ≤ length frames = run.basis.framed in
                          let q : length frames' ≡ length frames = st.as_long in omega arith)
                          x₀.used x₀.trail st.taken.1 (sym number) (sym trail_number) size
                          (mid_front alike law book rules goals b.first cells₀ run.basis.low frames n₀ r₀
                          here.spot.point.steps cs ts here.represents.level goal u₀ lower₀ x may)
                          (mid_unjoined alike law book rules goals b.first cells₀ run.basis.low frames n₀ r₀
                          here.spot.point.steps cs ts here.represents.level goal u₀ lower₀ x may)
                          up at'.goal st.taken.3 c e);
                    },
                    omega arith,
                  )
