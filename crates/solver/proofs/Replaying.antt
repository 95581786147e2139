-- One step of a replay on the lists that it was lent.
use Rattle.std.proofs.Common.{◌≡◌, ℕ, suc, ◌+◌, ◌-◌, ◌*◌, ◌<◌, ◌≤◌, Bool, true, false, List, [], ◌∷◌, ◌++◌, length, get_or, take, drop, Some, None, Option, sym, refl, ap, ◌∙◌, subst, add-one, arith, length-take, drop-cons, Decides as Tells}
use Rattle.std.proofs.lemmas.List.{drop_all}
use Rattle.theory.specs.Entries.{Entry, BookRules}
use Rattle.theory.specs.Records.{Replay, step, start}
use Rattle.theory.specs.Records as T
use Rattle.theory.specs.Check.{Verdict, passed, unlawful, no_cells}
use Rattle.theory.specs.Calls.{Answer, passes, refused, unlawful_at, no_cell}
use Rattle.theory.specs.Answers.{answer_to}
use Rattle.unify.specs.Cells as C
use Rattle.unify.specs.Cells.{unjoined}
use Rattle.unify.specs.Unify.{State, Move, unify}
use Rattle.unify.specs.Theorems.{Decides}
use Rattle.cells.proofs.Sameness.{decided}
use Rattle.unify.specs.Steady.{WentOn}
use Rattle.searching.specs.Trying.{copied}
use Rattle.searching.specs.Checking.{checks_from, checks}
use Rattle.cells.specs.declared.cell.Cell.{Cell}
use Rattle.cells.specs.Cells.{cells_of}
use Rattle.calls.specs.declared.step.Step.{Step}
use Rattle.calls.specs.Steps.{step_of, steps_of}
use Rattle.attempts.specs.declared.extent.Extent.{Extent}
use Rattle.frames.specs.declared.frame.Goal.{Goal}
use Rattle.frames.specs.declared.frame.Frame.{Frame}
use Rattle.frames.specs.Goals.{above, Pends, Current, First}
use Rattle.frames.specs.Tries.{Chained, Allowed}
use Rattle.frames.specs.Levels.{Level}
use Rattle.frames.proofs.Pushing.{pushed, pends_new}
use Rattle.frames.proofs.Starting.{start_level, start_pends}
use Rattle.frames.proofs.Leaving.{pends_chain}
use Rattle.frames.proofs.Turning.{Onto}
use Rattle.solver.specs.Standing.{Standing}
use Rattle.solver.specs.declared.bounds.Bounds.{Bounds}
use Rattle.slate.specs.declared.refusal.Rule.{Rule}
use Rattle.slate.specs.Refusals.{rule_number}
use Rattle.solver.specs.Steps.{size_at, parts_for, target, Formed, Takeable, Stepped, frame_of}
use Rattle.solver.specs.Searching.{in_use, Ground}
use Rattle.solver.specs.Runs.{Begun, Ready}
use Rattle.solver.specs.Checking.{bounds_of, Tested, Faces, Replaying, Replays}
use Rattle.solver.specs.declared.derivation.Derivation.{Derivation}
use Rattle.solver.specs.Derivations.{standing_of, Continues, verdict_on, ReplayGoes}
use Rattle.solver.proofs.Onward.{onward, backward, further}
use Rattle.solver.proofs.Stepping.{in_use_number}
use Rattle.solver.proofs.Moments.{onto, mid_number, mid_front, mid_unjoined, formed, goal_low, stood}
use Rattle.solver.proofs.Checks.{check_passed, check_pending, check_broken, check_scarce, check_falls, check_stands}
use Rattle.solver.proofs.Forms.{nothing_pends}

-- the next step of a record, or that none is left
module _ (record_steps : List Step) (i : ℕ) where
  pub next_step : (d : Step) → i < length record_steps →
      steps_of (drop i record_steps) ≡ step_of (get_or record_steps i d) ∷ steps_of (drop (i + 1) record_steps)
  next_step d h =
      ap steps_of (drop-cons record_steps i d h)
      ∙ ap (λ j. step_of (get_or record_steps i d) ∷ steps_of (drop j record_steps)) (sym (add-one i))

  pub no_step : length record_steps ≤ i → steps_of (drop i record_steps) ≡ []
  no_step h = ap steps_of (drop_all i record_steps h)

-- what is read past the end of a record
abbrev blank : Step
blank = record { mode = 0; number = 0 }

module _ {B L : Type 0} (alike : L → L → Bool) (decides : (x y : L) → Tells (alike x y) (x ≡ y)) (entries : B → List (Entry L))
    (rules_of : (x : B) → ∥ BookRules (entries x) ∥₁) (d₀ d : Derivation B L) (room : ℕ) (record_steps : List Step) (i : ℕ)
    (goes : ReplayGoes alike entries d₀ room d record_steps i) where
  law : Decides alike
  law = decided alike decides

  abbrev book : List (Entry L)
  book = entries d.book.now

  rules : ∥ BookRules book ∥₁
  rules = rules_of d.book.now

  abbrev goals : List ℕ
  goals = d.goals.now

  abbrev b : Bounds
  b = bounds_of (length record_steps) room d₀.store.now.extent.used

  abbrev cells₀ : List (C.Cell L)
  cells₀ = cells_of (take d₀.store.now.extent.used d₀.store.now.cells.now)

  abbrev v : Verdict
  v = verdict_on alike entries d₀ room record_steps

  abbrev cells : List (Cell L)
  cells = d.store.now.cells.now

  abbrev work : List ℕ
  work = d.store.now.work.now

  abbrev frames : List Frame
  frames = d.frames.now

  abbrev at : Standing
  at = standing_of d

  abbrev left : List T.Step
  left = steps_of (drop i record_steps)

  run : Replaying alike book goals b cells₀ v cells work frames at left
  run = goes.replaying

  same : at.depth ≡ i
  same = goes.depth

  -- the replay has ended on these lists, over what it began over
  abbrev Over : List (Cell L) → List ℕ → List Frame → Standing → Answer → Type 0
  Over cells' work' frames' at' a = Replays alike (entries d₀.book.now) d₀.goals.now b cells₀ v cells' work' frames' at' a

  over : (cells' : List (Cell L)) (work' : List ℕ) (frames' : List Frame) (at' : Standing) (a : Answer) →
      Replays alike book goals b cells₀ v cells' work' frames' at' a → Over cells' work' frames' at' a
  over cells' work' frames' at' a done =
      backward entries d₀ d (λ bk gs. Replays alike bk gs b cells₀ v cells' work' frames' at' a) goes.same done

  abbrev x₀ : Extent
  x₀ = at.extent

  abbrev cs : List (C.Cell L)
  cs = in_use cells x₀

  abbrev ts : List ℕ
  ts = take x₀.trail work

  abbrev n₀ : ℕ
  n₀ = at.depth

  abbrev r₀ : Replay L
  r₀ = run.replay

  used_fits : x₀.used ≤ length cells
  used_fits = let h : x₀.used ≤ b.cells = run.filled.used in let k : b.cells ≤ length cells = run.basis.fits in omega arith

  number : length cs ≡ x₀.used
  number = in_use_number x₀.used cells used_fits

  trail_number : length ts ≡ x₀.trail
  trail_number = let h : x₀.trail ≤ length work = run.filled.room in omega (arith, length-take x₀.trail work)

  trail_low : x₀.trail ≤ x₀.used
  trail_low =
      let h : unjoined cs + length ts ≤ length cs = run.level.room in
      let e : length ts ≡ x₀.trail = trail_number in
      let q : length cs ≡ x₀.used = number in
      omega arith

  -- the replay ends here
  ends : (w : Verdict) → checks_from alike book b.first (b.cells - b.first) left cs r₀ i ≡ w →
      Over cells work frames at (answer_to w)
  ends w e = over cells work frames at (answer_to w) (record {
    basis = run.basis;
    filled = run.filled;
    replay = r₀;
    steps = run.steps;
    level = run.level;
    answer =
        ap answer_to (sym e
        ∙ (ap (checks_from alike book b.first (b.cells - b.first) left cs r₀) (sym same) ∙ run.leads));
  })

  -- no step is left
  module _ (past : length record_steps ≤ i) where
    none : left ≡ []
    none = no_step record_steps i past

    pub all_passed : at.goal ≡ None → Over cells work frames at passes
    all_passed e =
        ends passed (ap (λ l. checks_from alike book b.first (b.cells - b.first) l cs r₀ i) none
        ∙ check_passed alike book b.first (b.cells - b.first) cs r₀ i
        (subst (λ g. Faces book goals frames n₀ g r₀.pending) e run.faces))

    pub still_pending : (goal : Goal) → at.goal ≡ Some goal →
        i ≤ length record_steps → Over cells work frames at (refused (unlawful_at (length record_steps) 6))
    still_pending goal e up =
        let all : i ≡ length record_steps = omega arith in
        let u : Current book goals frames goal r₀.pending =
        (subst (λ g. Faces book goals frames n₀ g r₀.pending) e run.faces).0 in
        subst (λ n. Over cells work frames at (refused (unlawful_at n 6))) all
        (ends (unlawful i 6) (ap (λ l. checks_from alike book b.first (b.cells - b.first) l cs r₀ i) none
        ∙ check_pending alike book b.first (b.cells - b.first) cs r₀ i u.first u.rest u.list))

  -- a step is left
  module _ (more : i < length record_steps) where
    abbrev x : Step
    x = get_or record_steps i blank

    abbrev xs : List T.Step
    xs = steps_of (drop (i + 1) record_steps)

    next : left ≡ step_of x ∷ xs
    next = next_step record_steps i blank more

    -- the replay ends at it
    ends_at : (w : Verdict) → checks_from alike book b.first (b.cells - b.first) (step_of x ∷ xs) cs r₀ i ≡ w →
        Over cells work frames at (answer_to w)
    ends_at w e = ends w (ap (λ l. checks_from alike book b.first (b.cells - b.first) l cs r₀ i) next ∙ e)

    -- no goal is pending
    pub none_pending : at.goal ≡ None → Over cells work frames at (refused (unlawful_at i 2))
    none_pending e =
        ends_at (unlawful i 2) (check_broken alike book b.first (b.cells - b.first) cs r₀ i (step_of x) xs 2
        (nothing_pends book r₀ (step_of x) (subst (λ g. Faces book goals frames n₀ g r₀.pending) e run.faces)))

    module _ (goal : Goal) (taken : at.goal ≡ Some goal) where
      here : Faces book goals frames n₀ (Some goal) r₀.pending
      here = subst (λ g. Faces book goals frames n₀ g r₀.pending) taken run.faces

      abbrev u₀ : Current book goals frames goal r₀.pending
      u₀ = here.0

      abbrev lower₀ : above goal.parent ≤ n₀
      lower₀ = here.1

      -- the goal has a path
      pub chained : Chained frames goal.parent
      chained =
          (u₀.chain, pends_chain book goals frames u₀.chain goal.parent (suc goal.place) u₀.rest u₀.pends)

      -- the step breaks a rule by its form
      pub bad_form : (rule : Rule) → Tested book frames goal x (Some rule) →
          Over cells work frames at (refused (unlawful_at i (rule_number rule)))
      bad_form rule t =
          ends_at (unlawful i (rule_number rule)) (check_broken alike book b.first (b.cells - b.first) cs r₀ i (step_of x) xs (rule_number rule)
          (t goals r₀ u₀))

      module _ (good : Tested book frames goal x None) where
        may : Allowed book frames n₀ goal.inner u₀.chain x
        may = good goals r₀.pending u₀ n₀ lower₀

        -- what the step comes to by the definitions
        on : Onto alike book b.first n₀ r₀ cs goal u₀.first u₀.rest x (size_at book x)
            (copied (λ j. length cs + j) cs (parts_for book x)) (target book frames (length cs) x)
        on = onto alike law book rules goals b.first cells₀ run.basis.low frames n₀ r₀ run.steps cs ts
            run.level goal u₀ lower₀ x may

        cells_are : x₀.used ≡ b.first + r₀.cells
        cells_are = sym number ∙ run.level.number

        -- its instance does not fit
        pub scarce : b.cells - x₀.used < size_at book x →
            Over cells work frames at (refused no_cell)
        scarce e =
            ends_at no_cells (check_scarce alike book b.first (b.cells - b.first) cs r₀ i (step_of x) xs on.next on.on
            (let q : on.next.cells ≡ r₀.cells + size_at book x = on.number in
            let h : x₀.used ≡ b.first + r₀.cells = cells_are in
            let k : x₀.used ≤ b.cells = run.filled.used in
            omega arith))

        module _ (enough : size_at book x ≤ b.cells - x₀.used) where
          below : n₀ < b.steps
          below = let q : n₀ ≡ i = same in omega arith

          whole : x₀.used + size_at book x ≤ b.cells
          whole = let k : x₀.used ≤ b.cells = run.filled.used in omega arith

          few : length cs + size_at book x ≤ 2048
          few =
              let h : x₀.used + size_at book x ≤ b.cells = whole in
              let k : b.cells ≤ 2048 = run.basis.few in
              let e : length cs ≡ x₀.used = number in
              omega arith

          -- its instance fits into the free cells
          fits : on.next.cells ≤ b.cells - b.first
          fits =
              let q : on.next.cells ≡ r₀.cells + size_at book x = on.number in
              let h : x₀.used + size_at book x ≤ b.cells = whole in
              let e : x₀.used ≡ b.first + r₀.cells = cells_are in
              omega arith

          -- the step can be taken
          pub takeable : Takeable book goals cells work frames at goal x
          takeable =
              let h : x₀.used + size_at book x ≤ b.cells = whole in
              let e : length cs ≡ x₀.used = number in
              let i : goal.cell < length cs =
              goal_low alike law book rules goals b.first cells₀ run.basis.low frames n₀ r₀ run.steps cs ts
              run.level goal u₀ lower₀ x may in
              let low : x₀.trail ≤ x₀.used = trail_low in
              let g1 : b.cells ≤ length cells = run.basis.fits in
              let g2 : b.cells ≤ 2048 = run.basis.few in
              let g3 : 2 * b.cells ≤ length work = run.basis.long in
              let g4 : b.steps ≤ length frames = run.basis.framed in
              let g5 : b.steps ≤ 4096 = run.basis.short in
              let g6 : n₀ < b.steps = below in
              record {
                pending = r₀.pending;
                current = u₀;
                lower = lower₀;
                few_goals = run.basis.few_goals;
                room = omega arith;
                few_steps = omega arith;
                try = record {
                  formed = subst (λ k. Formed book frames k x) number
                      (formed alike law book rules goals b.first cells₀ run.basis.low frames n₀ r₀ run.steps
                      cs ts run.level goal u₀ lower₀ x may);
                  tryable = record {
                    sound = run.filled.sound;
                    fits = omega arith;
                    few = omega arith;
                    room = omega arith;
                    inside = omega arith;
                  };
                };
                trail = omega arith;
              }

          module _ (d' : Derivation B L) where
            abbrev cells' : List (Cell L)
            cells' = d'.store.now.cells.now

            abbrev work' : List ℕ
            work' = d'.store.now.work.now

            abbrev frames' : List Frame
            frames' = d'.frames.now

            abbrev at' : Standing
            at' = standing_of d'

            -- the lists are as long as they were
            basis' : length cells' ≡ length cells → length work' ≡ length work → length frames' ≡ length frames →
                Ground goals b cells' work' frames'
            basis' p q w = record {
              few_goals = run.basis.few_goals;
              low = run.basis.low;
              begin = run.basis.begin;
              fits = let h : b.cells ≤ length cells = run.basis.fits in omega arith;
              few = run.basis.few;
              long = let h : 2 * b.cells ≤ length work = run.basis.long in omega arith;
              framed = let h : b.steps ≤ length frames = run.basis.framed in omega arith;
              short = run.basis.short;
            }

            -- the level, by other names for the same
            level' : {fs fs' : List Frame} {k k' : ℕ} {ds ds' : List (C.Cell L)} {us us' : List ℕ} (r : Replay L)
                (steps : List T.Step) → fs ≡ fs' → k ≡ k' → ds ≡ ds' → us ≡ us' →
                Level book goals b.first cells₀ fs k r steps ds us → Level book goals b.first cells₀ fs' k' r steps ds' us'
            level' {fs} {fs'} {k} {k'} {ds} {ds'} {us} {us'} r steps p q w y z =
                subst (λ a. Level book goals b.first cells₀ a k' r steps ds' us') p
                (subst (λ a. Level book goals b.first cells₀ fs a r steps ds' us') q
                (subst (λ a. Level book goals b.first cells₀ fs k r steps a us') w
                (subst (λ a. Level book goals b.first cells₀ fs k r steps ds a) y z)))

            -- the step leaves no reading
            pub after_fall : Stepped alike book goals goal x false cells work frames at cells' work' frames' at' →
                Over cells' work' frames' at' (refused (unlawful_at i 7))
            after_fall s =
                let fe : frames' ≡ frames = s.taken.0 in
                let ae : at' ≡ at = s.taken.1 in
                let t : State L = s.tried.tried.0.0 in
                let falls : unify alike (copied (λ j. length cs + j) cs (parts_for book x)) goal.cell
                (target book frames (length cs) x) ≡ Move.clash t =
                ap (λ k. unify alike (copied (λ j. length cs + j) cs (parts_for book x)) goal.cell (target book frames k x))
                number ∙ s.tried.tried.0.1 in
                let done : Over cells work frames at (refused (unlawful_at i 7)) =
                ends_at (unlawful i 7) (check_falls alike book b.first (b.cells - b.first) cs r₀ i (step_of x) xs
                on.next on.on fits u₀.first u₀.rest u₀.list t (on.tried ∙ falls)) in
                over cells' work' frames' at' _ (record {
                  basis = basis' s.tried.as_many s.tried.as_long s.as_long;
                  filled = record {
                    sound = s.tried.sound;
                    used = subst (λ (z : Standing). z.extent.used ≤ b.cells) (sym ae) run.filled.used;
                    room = s.tried.room;
                  };
                  replay = r₀;
                  steps = run.steps;
                  level = level' r₀ run.steps (sym fe) (ap (λ (z : Standing). z.depth) (sym ae))
                      (sym s.tried.tried.1) (sym s.tried.tried.2) run.level;
                  answer = done.answer;
                })

            -- the step stands
            stands_on : Stepped alike book goals goal x true cells work frames at cells' work' frames' at' →
                Replaying alike book goals b cells₀ v cells' work' frames' at' xs
            stands_on s =
                let t : State L = s.tried.tried.0 in
                let stands : unify alike (copied (λ j. length cs + j) cs (parts_for book x)) goal.cell
                (target book frames (length cs) x) ≡ Move.went t =
                ap (λ k. unify alike (copied (λ j. length cs + j) cs (parts_for book x)) goal.cell (target book frames k x))
                number ∙ s.tried.tried.1 in
                let up : WentOn (copied (λ j. length cs + j) cs (parts_for book x)) t =
                stood alike law book rules goals b.first cells₀ run.basis.low frames n₀ r₀ run.steps cs ts
                run.level goal u₀ lower₀ x may few t stands in
                let size : length (copied (λ j. length cs + j) cs (parts_for book x)) ≡ length cs + size_at book x =
                mid_number alike law book rules goals b.first cells₀ run.basis.low frames n₀ r₀ run.steps cs
                ts run.level goal u₀ lower₀ x may in
                let now : at'.extent.used ≡ x₀.used + size_at book x =
                sym (in_use_number at'.extent.used cells' s.tried.fits)
                ∙ (ap length s.tried.tried.2 ∙ (up.number ∙ (size ∙ ap (λ k. k + size_at book x) number))) in
                let depth : at'.depth ≡ suc n₀ = s.taken.2 in
                let f : Frame = frame_of goal x x₀ in
                let small : length cs ≤ 2048 = (let h : length cs + size_at book x ≤ 2048 = few in omega arith) in
                let long : n₀ < length frames' =
                (let k : b.steps ≤ length frames = run.basis.framed in
                let q : length frames' ≡ length frames = s.as_long in omega arith) in
                let above' : Level book goals b.first cells₀ frames' (suc n₀) on.next (run.steps ++ (step_of x ∷ []))
                t.cells (ts ++ t.trail) =
                pushed book rules goals b.first cells₀ run.basis.low frames n₀ r₀ run.steps cs ts run.level
                goal u₀ lower₀ small frames' s.taken.0 long x f s.taken.1 refl refl (sym number) on.next
                (size_at book x) on.taken on.offsets on.number (on.end f refl (sym number))
                (copied (λ j. length cs + j) cs (parts_for book x)) size
                (mid_front alike law book rules goals b.first cells₀ run.basis.low frames n₀ r₀ run.steps cs ts
                run.level goal u₀ lower₀ x may)
                (mid_unjoined alike law book rules goals b.first cells₀ run.basis.low frames n₀ r₀ run.steps cs ts
                run.level goal u₀ lower₀ x may) t up in
                let pends : Pends book goals frames' (n₀ ∷ u₀.chain) (Some n₀) 0 on.next.pending =
                pends_new book rules goals b.first cells₀ run.basis.low frames n₀ r₀ run.steps cs ts run.level
                goal u₀ lower₀ small frames' s.taken.0 long x f s.taken.1 refl refl (sym number) on.next
                (size_at book x) on.taken on.offsets on.number (on.end f refl (sym number)) (on.pending f refl) in
                record {
                  basis = basis' s.tried.as_many s.tried.as_long s.as_long;
                  filled = record {
                    sound = s.tried.sound;
                    used = let h : x₀.used + size_at book x ≤ b.cells = whole in omega arith;
                    room = s.tried.room;
                  };
                  replay = on.next;
                  steps = run.steps ++ (step_of x ∷ []);
                  level = level' on.next (run.steps ++ (step_of x ∷ [])) refl (sym depth)
                      (sym s.tried.tried.2) (sym s.tried.tried.3) above';
                  faces =
                      subst (λ k. Faces book goals frames' k at'.goal on.next.pending) (sym depth)
                      (faced at'.goal on.next.pending (s.taken.3 (n₀ ∷ u₀.chain) on.next.pending pends));
                  leads =
                      (λ i. checks_from alike book b.first (b.cells - b.first) xs (s.tried.tried.2 i) on.next (depth i))
                      ∙ (sym (check_stands alike book b.first (b.cells - b.first) cs r₀ n₀ (step_of x) xs on.next on.on
                      fits u₀.first u₀.rest u₀.list t (on.tried ∙ stands))
                      ∙ (ap (λ l. checks_from alike book b.first (b.cells - b.first) l cs r₀ n₀) (sym next) ∙ run.leads));
                }
              where
                faced : (g : Option Goal) (l : List T.Goal) → First book goals frames' (Some n₀) g l →
                    Faces book goals frames' (suc n₀) g l
                faced None l w = w
                faced (Some y) l w = w

            -- and the replay goes on
            pub after_step : Continues d d' → Stepped alike book goals goal x true cells work frames at cells' work' frames' at' →
                ReplayGoes alike entries d₀ room d' record_steps (i + 1)
            after_step on s = record {
              depth = let e : at'.depth ≡ suc n₀ = s.taken.2 in let q : n₀ ≡ i = same in omega arith;
              replaying =
                  onward entries d d' (λ bk gs. Replaying alike bk gs b cells₀ v cells' work' frames' at' xs) on (stands_on s);
              same = further goes.same on;
            }

-- where a replay begins
module _ {L : Type 0} (alike : L → L → Bool) (book : List (Entry L)) (goals : List ℕ) (b : Bounds) (cells : List (Cell L))
    (work : List ℕ) (frames : List Frame) (ready : Ready goals b cells work frames) (record_steps : List T.Step) where
  abbrev first_cells : List (C.Cell L)
  first_cells = cells_of (take b.first cells)

  first_fits : b.first ≤ length cells
  first_fits =
      let h : b.first ≤ b.cells = ready.basis.begin in
      let k : b.cells ≤ length cells = ready.basis.fits in
      omega arith

  pub begins : (at : Standing) → Begun book goals frames b.first at →
      Replaying alike book goals b first_cells (checks alike book b.first (b.cells - b.first) first_cells goals record_steps)
      cells work frames at record_steps
  unfolding checks
  begins at begun =
      subst (λ z. Replaying alike book goals b first_cells (checks alike book b.first (b.cells - b.first) first_cells goals record_steps)
      cells work frames z record_steps) same (record {
        basis = ready.basis;
        filled = record { sound = ready.sound; used = ready.basis.begin; room = omega arith };
        replay = start goals;
        steps = [];
        level = subst (λ k. Level book goals k first_cells frames 0 (start goals) [] first_cells [])
            (in_use_number b.first cells first_fits) (start_level book goals frames first_cells ready.sound.solved);
        faces = faced at.goal (begun.goal [] (start {V = L} goals).pending (start_pends book goals frames));
        leads = refl;
      })
    where
      faced : (g : Option Goal) → First book goals frames None g (start {V = L} goals).pending →
          Faces book goals frames 0 g (start {V = L} goals).pending
      faced None w = w
      faced (Some y) w = w

      same : record { depth = 0; extent = record { used = b.first; trail = 0 }; goal = at.goal } ≡ at
      same = λ i. record {
        depth = sym begun.depth i;
        extent = record { used = sym begun.all i; trail = sym begun.trail i };
        goal = at.goal;
      }
