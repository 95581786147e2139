-- The latest step taken back, on the lists that a search was lent.
use Rattle.std.proofs.Common.{◌≡◌, ℕ, suc, ◌-◌, ◌<◌, ◌≤◌, Bool, List, length, get_or, take, drop, Some, None, Ok, Err, sym, subst, subst₂, arith, Decides as Tells}
use Rattle.std.specs.List.{slice_get, AllByRecursion}
use Rattle.std.proofs.lemmas.Option.{slice_get-get_or}
use Rattle.std.proofs.lemmas.List.{take-take}
use Rattle.theory.specs.Entries.{Entry, BookRules}
use Rattle.theory.specs.Search.{failed}
use Rattle.unify.specs.Cells as C
use Rattle.unify.specs.Solved.{Solved}
use Rattle.unify.specs.Unify.{clear}
use Rattle.searching.specs.Solving.{Spot}
use Rattle.cells.specs.declared.cell.Cell.{Cell}
use Rattle.attempts.specs.declared.extent.Extent.{Extent}
use Rattle.attempts.specs.Attempts.{Retractable, Retracted}
use Rattle.frames.specs.declared.frame.Goal.{Goal}
use Rattle.frames.specs.declared.frame.Frame.{Frame}
use Rattle.frames.specs.declared.frame.Cursor.{Cursor}
use Rattle.frames.specs.Tries.{cursor_after, Named, NextTry}
use Rattle.frames.specs.Levels.{end_of, Under}
use Rattle.frames.specs.Points.{Searching, EndsAs}
use Rattle.frames.proofs.Following.{unset}
use Rattle.frames.proofs.Pushing.{end_after}
use Rattle.frames.proofs.Starting.{steps_are}
use Rattle.frames.proofs.Turning.{top_under, at_back, at_failed, at_granted}
use Rattle.solver.specs.Standing.{Moment}
use Rattle.solver.specs.declared.bounds.Bounds.{Bounds}
use Rattle.solver.specs.declared.ending.Ending.TheVariants.{Failed}
use Rattle.solver.specs.declared.search.Search.{Search}
use Rattle.solver.specs.Derivations.{moment_of, SearchRuns}
use Rattle.solver.specs.Searching.{turns_left, limits_of, in_use, Running, Finished}
use Rattle.solver.proofs.Moments.{used_fits, number, trail_number, short, finished, here}

module _ {B L : Type 0} (alike : L → L → Bool) (decides : (x y : L) → Tells (alike x y) (x ≡ y)) (entries : B → List (Entry L))
    (rules_of : (x : B) → ∥ BookRules (entries x) ∥₁) (s : Search B L) (cells₀ : List (C.Cell L))
    (run : SearchRuns alike (entries s.derivation.now.book.now) cells₀ s) where
  abbrev book : List (Entry L)
  book = entries s.derivation.now.book.now

  rules : ∥ BookRules book ∥₁
  rules = rules_of s.derivation.now.book.now

  abbrev goals : List ℕ
  goals = s.derivation.now.goals.now

  abbrev b : Bounds
  b = s.bounds

  abbrev cells : List (Cell L)
  cells = s.derivation.now.store.now.cells.now

  abbrev work : List ℕ
  work = s.derivation.now.store.now.work.now

  abbrev frames : List Frame
  frames = s.derivation.now.frames.now

  abbrev m : Moment
  m = moment_of s

  abbrev x₀ : Extent
  x₀ = m.at.extent

  abbrev cs : List (C.Cell L)
  cs = in_use cells x₀

  abbrev ts : List ℕ
  ts = take x₀.trail work

  -- nothing is pending
  pub granted : m.at.goal ≡ None → Finished alike book goals b cells₀ cells work frames m (Ok tt)
  granted e =
      let h : Searching alike book goals b.first cells₀ (limits_of b) frames m.at.depth None m.cursor m.count cs ts =
      subst (λ g. Searching alike book goals b.first cells₀ (limits_of b) frames m.at.depth g m.cursor m.count cs ts) e
      run.searching in
      finished alike decides entries rules_of s cells₀ run (Ok tt)
      (subst (λ l. EndsAs alike book goals b.first cells₀ (limits_of b) (Rattle.theory.specs.Search.granted m.count l) cs)
      (steps_are book goals frames b.first cells₀ m.at.depth h.spot.point.at h.spot.point.steps cs ts
      h.represents.level)
      (at_granted alike book goals b.first cells₀ (limits_of b) frames m.at.depth m.cursor m.count cs ts h))

  module _ (goal : Goal) (taken : m.at.goal ≡ Some goal) (none : NextTry book goal.inner m.cursor None) where
    -- the search at its goal
    abbrev at_goal : Searching alike book goals b.first cells₀ (limits_of b) frames m.at.depth (Some goal) m.cursor
        m.count cs ts
    at_goal = here alike decides entries rules_of s cells₀ run goal taken

    -- no step stands
    pub failing : m.at.depth ≡ 0 → Finished alike book goals b cells₀ cells work frames m (Err Failed)
    failing e =
        finished alike decides entries rules_of s cells₀ run (Err Failed)
        (at_failed alike book goals b.first cells₀ (limits_of b) frames m.at.depth m.cursor m.count cs ts goal at_goal none
        (short alike decides entries rules_of s cells₀ run) e)

    module _ (some : m.at.depth ≡ 0 → ⊥) where
      abbrev n : ℕ
      n = m.at.depth - 1

      abbrev f : Frame
      f = get_or frames n unset

      one_more : m.at.depth ≡ suc n
      one_more = omega arith

      pub inside : n < length frames
      inside =
          let h : m.at.depth ≤ b.steps = run.depth in
          let k : b.steps ≤ length frames = run.basis.framed in
          omega arith

      at : slice_get frames n ≡ Some f
      at = slice_get-get_or frames n unset inside

      top : (q : Spot L) × Under book goals b.first cells₀ frames n f q cs ts
      top =
          let w = top_under book goals b.first cells₀ frames m.at.depth cs ts at_goal.below at_goal.represents.stack n f
          one_more at in
          (w.0, w.3)

      abbrev to : Extent
      to = record { used = f.used; trail = f.trail }

      less : f.used ≤ x₀.used
      less =
          let t = at_goal.represents.level.tells n f at (omega arith) in
          let e : end_of book f ≤ length cs = t.end in
          let a : f.used ≤ end_of book f = end_after book rules goals b.first cells₀ run.basis.low f in
          let k : length cs ≡ x₀.used = number alike decides entries rules_of s cells₀ run in
          omega arith

      fewer : f.trail ≤ x₀.trail
      fewer =
          let e : f.trail ≤ length ts = top.1.joins in
          let k : length ts ≡ x₀.trail = trail_number alike decides entries rules_of s cells₀ run in
          omega arith

      -- the step can be taken back
      pub retractable : Retractable cells work x₀ to
      retractable = record {
        sound = run.filled.sound;
        fits = used_fits alike decides entries rules_of s cells₀ run;
        room = run.filled.room;
        used = less;
        trail = fewer;
        inside =
            subst (λ k. AllByRecursion (λ i. i < k) ts) (number alike decides entries rules_of s cells₀ run)
            at_goal.represents.level.inside;
        solved = subst Solved top.1.are top.1.level.solved;
      }

      -- its step can be passed over
      pub named : Named (length frames) f.step
      named =
          let i : n < length frames = inside in
          ((λ e. let k : f.step.number < n = top.1.named.0 e in omega arith), top.1.named.1)

      -- the goal goes on
      pub after_back : (cells' : List (Cell L)) → Retracted cells work x₀ to cells' → (c : Cursor) → c ≡ cursor_after frames f.step →
          (x' : Extent) → x' ≡ to → (work' : List ℕ) → work' ≡ work →
          let m' : Moment = record { at = record { depth = n; extent = x'; goal = Some f.goal }; cursor = c; count = m.count } in
          Running alike book goals b cells₀ cells' work' frames m' × (turns_left b m' < turns_left b m)
      after_back cells' r c e x' xe work' we =
          let m₁ : Moment = record { at = record { depth = n; extent = to; goal = Some f.goal }; cursor = c; count = m.count } in
          let back : Searching alike book goals b.first cells₀ (limits_of b) frames n (Some f.goal) (cursor_after frames f.step)
          m.count (take f.used (clear (drop f.trail ts) cs)) (take f.trail ts) =
          at_back alike book goals b.first cells₀ (limits_of b) frames m.at.depth m.cursor m.count cs ts goal at_goal none
          (short alike decides entries rules_of s cells₀ run) n f one_more at in
          let S : Cursor → List (C.Cell L) → List ℕ → Type 0 = λ d ds us.
          Searching alike book goals b.first cells₀ (limits_of b) frames n (Some f.goal) d m.count ds us in
          let moved : S c (in_use cells' to) (take f.trail work) =
          subst (λ d. S d (in_use cells' to) (take f.trail work)) (sym e)
          (subst (λ ds. S (cursor_after frames f.step) ds (take f.trail work)) (sym r.is)
          (subst (S (cursor_after frames f.step) (take f.used (clear (drop f.trail ts) cs)))
          (take-take f.trail x₀.trail work fewer) back)) in
          let ok : Running alike book goals b cells₀ cells' work frames m₁ =
          record {
            basis = record {
              few_goals = run.basis.few_goals;
              low = run.basis.low;
              begin = run.basis.begin;
              fits = subst (λ k. b.cells ≤ k) (sym r.as_many) run.basis.fits;
              few = run.basis.few;
              long = run.basis.long;
              framed = run.basis.framed;
              short = run.basis.short;
            };
            filled = record {
              sound = r.sound;
              used = let h : f.used ≤ x₀.used = less in let k : x₀.used ≤ b.cells = run.filled.used in omega arith;
              room = let h : f.trail ≤ x₀.trail = fewer in let k : x₀.trail ≤ length work = run.filled.room in omega arith;
            };
            depth = let h : m.at.depth ≤ b.steps = run.depth in omega arith;
            count = run.count;
            searching = moved;
          } in (
            subst₂ (λ z w. Running alike book goals b cells₀ cells' w frames
                (record { at = record { depth = n; extent = z; goal = Some f.goal }; cursor = c; count = m.count })) (sym xe) (sym we) ok,
            omega arith,
          )
