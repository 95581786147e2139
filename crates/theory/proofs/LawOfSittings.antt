-- Right sittings keep the law.
use Rattle.std.proofs.Common.{◌≡◌, ℕ, ◌-◌, ◌⊎◌, ◌↔◌, List, map, sym, refl, ap, ◌∙◌, subst, inl, inr}
use Rattle.std.specs.List.{AllByRecursion}
use Rattle.std.proofs.ByRecursion.{All-weaker}
use Rattle.theory.specs.Trees.{Tree, Same}
use Rattle.theory.specs.Equations.{Equation, rename, Solves, MeetsAll}
use Rattle.theory.specs.Entries.{Entry, BookRules}
use Rattle.theory.specs.Held.{Held}
use Rattle.theory.specs.Records.{Step, Term, cell, Replay, start, replay, Lawful, together}
use Rattle.theory.specs.Check.{Verdict, passed, unlawful, no_cells, Check, Fitting, Exact}
use Rattle.theory.specs.Calls.{equate, compare, solve, check, Answer, grants, fails, passes, Event}
use Rattle.theory.specs.Known.{Known, placed, recorded, known}
use Rattle.theory.specs.Answers.{capacity, limits, answer_to}
use Rattle.theory.specs.Sittings.{Right, At, NotTaken, Stands, Law}
use Rattle.theory.proofs.Elements.{never}
use Rattle.theory.proofs.Readings.{meets_left, meets_right, meets_both, meets_renamed, meets_unrenamed}
use Rattle.theory.proofs.Replays.{leads_replay}
use Rattle.theory.proofs.HeldGoals.{goals_held}
use Rattle.theory.proofs.FailedSearches.{failed_none}
use Rattle.theory.proofs.CheckVerdicts.{exact}
use Rattle.theory.proofs.DefinedAnswers.{of_equated, of_compare, of_failed, of_check}
use Rattle.theory.proofs.SoundSittings.{granted_lawful, sound_right}
use Rattle.theory.proofs.Histories.{More, right_before, right_then, defined_then, more_now}

-- the same tree is held
same_held : {V : Type 0} (book : List (Entry V)) (t u : Tree V) → Same t u → Held book t → Held book u
same_held book t u e l =
    record { set = l.set; at = l.at; same = λ p. sym (e p) ∙ l.same p; proved = l.proved; heads = l.heads }

module _ {V : Type 0} (book : List (Entry V)) (rules : BookRules book) (supplied : ℕ) (h : List (Event V))
    (right : Right book supplied h) where
  -- a granted solve, and a reading of what is known now
  module _ (before : List (Event V)) (goals : List ℕ) (b s w f n : ℕ) (steps : List Step)
      (at : At h before (solve goals b s w f) (grants n steps)) where
    -- its record was lawful then
    was_lawful : Lawful book (known book before).equations goals steps
    was_lawful =
        (granted_lawful book rules supplied (known book before) goals b s w f n steps
        (sound_right book rules supplied before
        (right_then book supplied h right before (solve goals b s w f) (grants n steps) at))
        (defined_then book supplied h right before (solve goals b s w f) (grants n steps) at)).1

    -- the replay of its record
    abbrev last : Replay V
    last = was_lawful.last

    -- where the record's terms lie
    abbrev put : Term → ℕ
    put = placed (known book before).used last.offsets

    -- what it added is still known
    more : More (recorded (known book before) last) (known book h)
    more =
        subst (λ r. More (recorded (known book before) r) (known book h))
        (leads_replay book (start goals) steps last was_lawful.leads)
        (more_now book supplied h right before (solve goals b s w f) (grants n steps) at)

    module _ (ρ : ℕ → Tree V) (sol : Solves (known book h).equations ρ) where
      -- the reading reads the record too
      meets_record : MeetsAll (λ t. ρ (put t)) last.equations
      meets_record =
          let all : MeetsAll ρ (recorded (known book before) last).equations =
          meets_left ρ (recorded (known book before) last).equations more.0
          (subst (MeetsAll ρ) more.1 sol.meets) in
          meets_unrenamed put ρ last.equations
          (meets_right ρ (known book before).equations (map (rename put) last.equations) all)

      -- its goals are held
      granted : AllByRecursion (λ g. Held book (ρ g)) goals
      granted =
          goals_held book goals steps last was_lawful.leads was_lawful.done (λ t. ρ (put t))
          (record { trees = λ t. sol.trees (put t); meets = meets_record })

      -- and the reading solves what is known now together with the record
      reads_all : Solves (together (known book h).equations last) (λ t. ρ (put t))
      reads_all = record {
        trees = λ t. sol.trees (put t);
        meets =
            meets_both (λ t. ρ (put t)) (map (rename cell) (known book h).equations) last.equations
            (meets_renamed cell (λ t. ρ (put t)) (known book h).equations sol.meets) meets_record;
      }

    -- so its record is lawful now
    lawful : Lawful book (known book h).equations goals steps
    lawful = record {
      last = last;
      leads = was_lawful.leads;
      done = was_lawful.done;
      solvable =
          ∥∥₁_rec squash₁ (λ z. ∣ (λ t. z.0 (put t), reads_all z.0 z.1) ∣₁)
          (sound_right book rules supplied h right).solvable;
    }

  -- a failed solve leaves no record
  hopeless : (before : List (Event V)) (goals : List ℕ) (b s w f n : ℕ) →
      At h before (solve goals b s w f) (fails n) →
      (steps : List Step) → Lawful book (known book h).equations goals steps → ⊥
  hopeless before goals b s w f n at steps l =
      let k : Known V = known book before in
      let more : More k (known book h) =
      more_now book supplied h right before (solve goals b s w f) (fails n) at in
      failed_none book k.equations more.0 (limits supplied k b s) goals n
      (of_failed book supplied k goals b s w f n
      (defined_then book supplied h right before (solve goals b s w f) (fails n) at))
      steps (subst (λ es. Lawful book es goals steps) more.1 l)

  module _ (before : List (Event V)) (goals : List ℕ) (steps : List Step) (w f : ℕ) where
    -- what was known at a check
    abbrev es : List (Equation V ℕ)
    es = (known book before).equations

    -- the cells that were free
    abbrev free : ℕ
    free = capacity supplied - (known book before).used

    -- the record is lawful and fits
    abbrev Fits : Type 0
    Fits = Fitting book es free goals steps

    -- check passed exactly these
    passed_is : (a : Answer) → At h before (check goals steps w f) a → NotTaken a ⊎ ((a ≡ passes) ↔ Fits)
    passed_is a at =
        go (of_check book supplied (known book before) goals steps w f a
        (defined_then book supplied h right before (check goals steps w f) a at))
      where
        is : (v : Verdict) → Check book es free goals steps v → Exact book es free goals steps v
        is v c =
            exact book es free goals steps v
            (sound_right book rules supplied before
            (right_then book supplied h right before (check goals steps w f) a at)).solvable
            c

        verdict : (v : Verdict) → a ≡ answer_to v → a ≡ passes → v ≡ passed
        verdict passed e q = refl
        verdict (unlawful i r) e q = never (cc)
        verdict no_cells e q = never (cc)

        go : NotTaken a ⊎ ((v : Verdict) × Check book es free goals steps v × (a ≡ answer_to v)) →
            NotTaken a ⊎ ((a ≡ passes) ↔ Fits)
        go (inl r) = inl r
        go (inr (v, c, e)) =
            inr ((λ q. (is v c).passes.0 (verdict v e q)), (λ q. e ∙ ap answer_to ((is v c).passes.1 q)))

    -- and their goals are held
    checked : At h before (check goals steps w f) passes → (ρ : ℕ → Tree V) → Solves (known book h).equations ρ →
        (v : Term → Tree V) → Solves (replay book goals steps).equations v → ((c : ℕ) → Same (v (cell c)) (ρ c)) →
        AllByRecursion (λ g. Held book (ρ g)) goals
    checked at ρ sol v vs same = go (passed_is passes at)
      where
        held : Fits → AllByRecursion (λ g. Held book (ρ g)) goals
        held (l, c) =
            All-weaker (λ g. Held book (v (cell g))) (λ g. Held book (ρ g))
            (λ g. same_held book (v (cell g)) (ρ g) (same g)) goals
            (goals_held book goals steps l.last l.leads l.done v
            (subst (λ r. Solves r.equations v) (leads_replay book (start goals) steps l.last l.leads) vs))

        go : NotTaken passes ⊎ ((passes ≡ passes) ↔ Fits) → AllByRecursion (λ g. Held book (ρ g)) goals
        go (inl (r, e, n)) = never (cc)
        go (inr e) = held (e.0 refl)

  -- all of it at one moment
  stands : Stands book supplied h
  stands = record {
    sound = sound_right book rules supplied h right;
    equated = λ before x y w a at.
        of_equated book supplied (known book before) x y w a
        (defined_then book supplied h right before (equate x y w) a at);
    compared = λ before x y w a at.
        of_compare book supplied (known book before) x y w a
        (defined_then book supplied h right before (compare x y w) a at);
    granted = granted;
    checked = checked;
    passed = passed_is;
    lawful = lawful;
    hopeless = hopeless;
  }

-- the law of sittings
pub law : {V : Type 0} (book : List (Entry V)) → BookRules book → (supplied : ℕ) (h : List (Event V)) →
    Right book supplied h → Law book supplied h
law book rules supplied h right now later e =
    stands book rules supplied now (right_before book supplied h now later e right)
