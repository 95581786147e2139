-- The executable answer of each call is the defined one.
use Rattle.std.proofs.Common.{◌≡◌, ℕ, suc, ◌+◌, ◌-◌, ◌*◌, ◌<◌, ◌≤◌, Bool, true, false, ◌||◌, ltb, ◌⊎◌, ◌↔◌, List, [], ◌∷◌, ◌++◌, length, Some, None, Option, sym, refl, subst, inl, inr, arith}
use Rattle.std.specs.List.{AllByRecursion}
use Rattle.std.proofs.lemmas.Bool.{ltb-true, ltb-false, or_cases, or_parts}
use Rattle.theory.specs.Equations.{Equation, equal, Solvable, Entails, IsAtom}
use Rattle.theory.specs.Entries.{Entry, BookRules}
use Rattle.theory.specs.Records.{Step}
use Rattle.theory.specs.Search.{Outcome, granted, failed, spent, full, short, Solve}
use Rattle.theory.specs.Check.{If, Verdict, Check}
use Rattle.theory.specs.Calls.{Call, write_open, write_leaf, write_node, equate, compare, solve, check}
use Rattle.theory.specs.Calls.{Refusal, not_in_use, too_many_arguments, not_an_atom, too_long, too_short}
use Rattle.theory.specs.Calls.{Answer, accepted, same, different, refused}
use Rattle.theory.specs.Known.{Known, Sound, written, after}
use Rattle.theory.specs.Answers.{capacity, served, first_unused, FirstNonAtom, answer_of, answer_to, UsedOr}
use Rattle.theory.specs.Answers.{AtomsOr, NextCell, limits, Defined}
use Rattle.theory.proofs.Elements.{none_some, some_inj}
use Rattle.unify.specs.Cells.{Content, Cell, most, content_at, root}
use Rattle.unify.specs.Solved.{and_content, Solved}
use Rattle.unify.specs.Unify.{Move}
use Rattle.unify.specs.Unify
use Rattle.unify.specs.Writing.{write, Writable}
use Rattle.unify.specs.Theorems.{Decides, IsNode, Unified}
use Rattle.unify.specs.Meaning.{Means, Equated, Entailed}
use Rattle.unify.proofs.Written.{writing, length_write}
use Rattle.unify.proofs.Unified.{unify_right}
use Rattle.unify.proofs.Meant.{meaning}
use Rattle.searching.specs.Solving.{Ended, solves}
use Rattle.searching.specs.Checking.{checks}
use Rattle.searching.specs.Answering.{Answered, answered, refusing, if_used, if_atoms, is_node_there, or_goal}
use Rattle.searching.specs.Answering.{first_non_atom, next_cell, if_small, by_unifying, by_comparing, left_by}
use Rattle.searching.specs.Answering.{by_searching, limits_of, writes, answers}
use Rattle.searching.specs.Theorems.{Holds, Searched, AnswersAreRight}
use Rattle.searching.proofs.Theorems.{searched, checked}

-- what is at most is not above
not_above : (a b : ℕ) → b ≤ a → a < b → ⊥
not_above a b h q = omega arith

-- a test of two numbers
below : (a b : ℕ) → ltb a b ≡ true → a < b
below a b e = ltb-true a b e

-- and what it denies
not_below : (a b : ℕ) → ltb a b ≡ false → a < b → ⊥
not_below a b e = not_above a b (ltb-false a b e)

-- one of two tests
either : (a b c d : ℕ) → (ltb a b || ltb c d) ≡ true → (a < b) ⊎ (c < d)
either a b c d e = go (or_cases (ltb a b) (ltb c d) e)
  where
    go : (ltb a b ≡ true) ⊎ (ltb c d ≡ true) → (a < b) ⊎ (c < d)
    go (inl h) = inl (ltb-true a b h)
    go (inr h) = inr (ltb-true c d h)

-- none of two tests
neither : (a b c d : ℕ) → (ltb a b || ltb c d) ≡ false → (a < b) ⊎ (c < d) → ⊥
neither a b c d e (inl h) = not_below a b (or_parts (ltb a b) (ltb c d) e).0 h
neither a b c d e (inr h) = not_below c d (or_parts (ltb a b) (ltb c d) e).1 h

-- where no cell is found that is not in use, all are
all_used : (used : ℕ) (cs : List ℕ) → first_unused used cs ≡ None → AllByRecursion (λ c. c < used) cs
all_used used [] e = tt
all_used used (c ∷ cs) e = go (ltb c used) refl (all_used used cs) e
  where
    go : (b : Bool) → ltb c used ≡ b → (first_unused used cs ≡ None → AllByRecursion (λ d. d < used) cs) →
        Path (Option ℕ) (elim b [ true ↦ first_unused used cs | false ↦ Some c ]) None →
        (c < used) × AllByRecursion (λ d. d < used) cs
    go true b rest q = (ltb-true c used b, rest q)
    go false b rest q = absurd (none_some (sym q))

module _ {V : Type 0} (alike : V → V → Bool) (law : Decides alike) (book : List (Entry V))
    (rules : BookRules book) (supplied turns : ℕ) (cells : List (Cell V)) (es : List (Equation V ℕ))
    (ok : Solved cells) (means : Means cells es) where
  -- what is known
  abbrev k : Known V
  k = record { used = length cells; equations = es }

  -- the cells as they are
  here : Holds cells k
  here = record { solved = ok; used = refl; means = means }

  -- the answer is as the statement says, and the cells that are left mean what is known after it
  abbrev Fine : Call V → (Answer → Type 0) → Answered V → Type 0
  Fine c Q a = Q a.answer × Holds a.cells (after book k c a.answer)

  -- an answer that is given
  given : (c : Call V) (Q : Answer → Type 0) (x : Answer) (cs : List (Cell V)) → Q x →
      Holds cs (after book k c x) → (a : Answered V) → answered x cs ≡ Some a → Fine c Q a
  given c Q x cs q h a e = subst (Fine c Q) (some_inj e) (q, h)

  -- of a call whose refusals change nothing
  module _ (c : Call V) (kept : (r : Refusal) → Holds cells (after book k c (refused r))) where
    -- a refusal by a test
    refusing_right : (P : Type 0) (r : Refusal) (Q : Answer → Type 0) (b : Bool) → (b ≡ true → P) →
        (b ≡ false → P → ⊥) → (rest : Option (Answered V)) → (a : Answered V) →
        (rest ≡ Some a → Fine c Q a) →
        refusing cells r b rest ≡ Some a → Fine c (λ x. If P (x ≡ refused r) (Q x)) a
    unfolding refusing
    refusing_right P r Q true yes' no' rest a go q =
        given c (λ x. If P (x ≡ refused r) (Q x)) (refused r) cells (inl (yes' refl, refl)) (kept r) a q
    refusing_right P r Q false yes' no' rest a go q = let w = go q in (inr (no' refl, w.0), w.1)

    -- a refusal of a cell that is not in use
    used_right : (cs : List ℕ) (Q : Answer → Type 0) (rest : Option (Answered V)) (a : Answered V) →
        (AllByRecursion (λ x. x < length cells) cs → rest ≡ Some a → Fine c Q a) →
        if_used cells (first_unused (length cells) cs) rest ≡ Some a → Fine c (λ x. UsedOr k cs x (Q x)) a
    unfolding if_used
    used_right cs Q rest a go q = by (first_unused (length cells) cs) refl q
      where
        At : Option ℕ → Answer → Type 0
        At o x = (elim o as (λ z. Type 0) [ Some d ↦ x ≡ refused (not_in_use d) | None ↦ Q x ])

        by : (o : Option ℕ) → first_unused (length cells) cs ≡ o → if_used cells o rest ≡ Some a → Fine c (At o) a
        by None e q = go (all_used (length cells) cs e) q
        by (Some d) e q = given c (At (Some d)) (refused (not_in_use d)) cells refl (kept (not_in_use d)) a q

    -- the first goal that is no atom
    non_atom : (gs : List ℕ) → FirstNonAtom es gs (first_non_atom cells gs)
    unfolding first_non_atom is_node_there or_goal
    non_atom [] = refl
    non_atom (g ∷ gs) =
        go (content_at cells (root cells g)) ((meaning V).atoms cells es ok means g) (non_atom gs)
      where
        go : (d : Content V) → IsNode d ↔ IsAtom es g → FirstNonAtom es gs (first_non_atom cells gs) →
            If (IsAtom es g) (FirstNonAtom es gs (or_goal (is_node_there d) g (first_non_atom cells gs)))
            (or_goal (is_node_there d) g (first_non_atom cells gs) ≡ Some g)
        go Content.variable i f = inr (i.1, refl)
        go (Content.leaf v) i f = inr (i.1, refl)
        go (Content.node s xs) i f = inl (i.0 tt, f)

    -- a refusal of a goal that is no atom
    atoms_right : (gs : List ℕ) (Q : Answer → Type 0) (rest : Option (Answered V)) (a : Answered V) →
        (rest ≡ Some a → Fine c Q a) →
        if_atoms cells (first_non_atom cells gs) rest ≡ Some a → Fine c (λ x. AtomsOr k gs x (Q x)) a
    unfolding if_atoms
    atoms_right gs Q rest a go q = by (first_non_atom cells gs) (non_atom gs) q
      where
        by : (o : Option ℕ) → FirstNonAtom es gs o → if_atoms cells o rest ≡ Some a →
            Fine c (λ x. AtomsOr k gs x (Q x)) a
        by None f q = let w = go q in ((None, f, w.0), w.1)
        by (Some d) f q =
            given c (λ x. AtomsOr k gs x (Q x)) (refused (not_an_atom d)) cells (Some d, f, refl)
            (kept (not_an_atom d)) a q

    -- a symbol of 16 bits
    small_right : (f : ℕ) (Q : Answer → Type 0) (rest : Option (Answered V)) (a : Answered V) →
        (f < 65536 → rest ≡ Some a → Fine c Q a) →
        if_small (ltb f 65536) rest ≡ Some a → Fine c (λ x. (f < 65536) × Q x) a
    unfolding if_small
    small_right f Q rest a go q = by (ltb f 65536) refl q
      where
        by : (b : Bool) → ltb f 65536 ≡ b → if_small b rest ≡ Some a → Fine c (λ x. (f < 65536) × Q x) a
        by true e q = let h : f < 65536 = ltb-true f 65536 e in let w = go h q in ((h, w.0), w.1)
        by false e q = absurd (none_some q)

  -- what a write comes to
  abbrev Written : Content V → Answered V → Type 0
  Written d a =
      NextCell supplied k a.answer ×
      Holds a.cells (written k (and_content (length cells) d []) a.answer)

  -- a write
  writes_right : (d : Content V) → Writable cells d → (a : Answered V) →
      writes alike book supplied turns cells d ≡ Some a → Written d a
  unfolding writes next_cell
  writes_right d w a q = by (ltb (length cells) (capacity supplied)) refl q
    where
      new : length cells < capacity supplied → Holds (write cells d)
          (record { used = suc (length cells); equations = es ++ and_content (length cells) d [] })
      new h = record {
        solved = ((writing V).one_more cells ok (omega arith) d w).solved;
        used = omega (arith, length_write cells d);
        means = (meaning V).written cells es means d;
      }

      by : (b : Bool) → ltb (length cells) (capacity supplied) ≡ b → next_cell cells d b ≡ Some a → Written d a
      by true e q =
          let h : length cells < capacity supplied = ltb-true (length cells) (capacity supplied) e in
          subst (Written d) (some_inj q) (inl (h, refl), new h)
      by false e q =
          subst (Written d) (some_inj q) (inr (not_below (length cells) (capacity supplied) e, refl), here)

  -- an equate of cells in use
  unifying_right : (x y w : ℕ) → x < length cells → y < length cells → (a : Answered V) →
      by_unifying cells (Unify.unify alike cells x y) ≡ Some a →
      Fine (equate x y w)
      (λ z. If (Solvable (es ++ (equal x y ∷ []))) (z ≡ accepted) (z ≡ refused Refusal.clash)) a
  unfolding by_unifying
  unifying_right x y w hx hy a q =
      by (Unify.unify alike cells x y) (unify_right alike law cells ok x y hx hy)
      ((meaning V).equated alike law cells es ok means x y hx hy) q
    where
      Q : Answer → Type 0
      Q z = If (Solvable (es ++ (equal x y ∷ []))) (z ≡ accepted) (z ≡ refused Refusal.clash)

      by : (m : Move V) → Unified cells x y m → Equated (es ++ (equal x y ∷ [])) m →
          by_unifying cells m ≡ Some a → Fine (equate x y w) Q a
      by (Move.went s) u e q =
          given (equate x y w) Q accepted s.cells (inl (e.0, refl))
          (record { solved = u.solved; used = u.contents.number; means = e.1 }) a q
      by (Move.clash s) u e q = given (equate x y w) Q (refused Refusal.clash) cells (inr (e, refl)) here a q

  -- a compare of cells in use
  comparing_right : (x y w : ℕ) → x < length cells → y < length cells → (a : Answered V) →
      by_comparing cells (Unify.compare alike cells x y) ≡ Some a →
      Fine (compare x y w) (λ z. If (Entails es x y) (z ≡ same) (z ≡ different)) a
  unfolding by_comparing
  comparing_right x y w hx hy a q =
      by (Unify.compare alike cells x y) ((meaning V).compared alike law cells es ok means x y hx hy) q
    where
      Q : Answer → Type 0
      Q z = If (Entails es x y) (z ≡ same) (z ≡ different)

      by : (m : Move V) → Entailed es x y m → by_comparing cells m ≡ Some a → Fine (compare x y w) Q a
      by (Move.went s) e q = given (compare x y w) Q same cells (inl (e, refl)) here a q
      by (Move.clash s) e q = given (compare x y w) Q different cells (inr (e, refl)) here a q

  -- the free cells are cells of the slate
  fits : length cells + (capacity supplied - length cells) ≤ most
  fits = let h : length cells ≤ most = ok.few in omega arith

  module _ (sound : Sound k) where
    -- a search for goals in use
    searching_right : (goals : List ℕ) (b s w f : ℕ) → AllByRecursion (λ g. g < length cells) goals → (a : Answered V) →
        by_searching cells
        (solves alike book (length cells) (limits_of alike book supplied turns cells b s) turns cells goals)
        ≡ Some a →
        Fine (solve goals b s w f)
        (λ z. (o : Outcome) × Solve book es (limits supplied k b s) goals o × (z ≡ answer_of o)) a
    unfolding by_searching left_by
    searching_right goals b s w f in_use a q =
        by (solves alike book (length cells) (limits supplied k b s) turns cells goals) refl q
      where
        Q : Answer → Type 0
        Q z = (o : Outcome) × Solve book es (limits supplied k b s) goals o × (z ≡ answer_of o)

        left : (e : Ended V) → Searched book k (limits supplied k b s) goals e → (o : Outcome) →
            e.outcome ≡ o →
            Holds (left_by cells e.last.cells o) (after book k (solve goals b s w f) (answer_of o))
        left e z (granted n steps) p = z.cells n steps p
        left e z (failed n) p = here
        left e z (spent n) p = here
        left e z (full n) p = here
        left e z (short n) p = here

        by : (o : Option (Ended V)) →
            solves alike book (length cells) (limits supplied k b s) turns cells goals ≡ o →
            by_searching cells o ≡ Some a → Fine (solve goals b s w f) Q a
        by None p q = absurd (none_some q)
        by (Some e) p q =
            let z : Searched book k (limits supplied k b s) goals e =
            searched alike law book rules k sound cells here goals in_use (limits supplied k b s) fits turns e p in
            given (solve goals b s w f) Q (answer_of e.outcome) (left_by cells e.last.cells e.outcome)
            (e.outcome, z.outcome, refl) (left e z e.outcome refl) a q

    -- a check for goals in use
    checking_right : (goals : List ℕ) (steps : List Step) (w f : ℕ) → AllByRecursion (λ g. g < length cells) goals →
        (a : Answered V) →
        answered
        (answer_to (checks alike book (length cells) (capacity supplied - length cells) cells goals steps)) cells
        ≡ Some a →
        Fine (check goals steps w f)
        (λ z. (v : Verdict) × Check book es (capacity supplied - length cells) goals steps v × (z ≡ answer_to v)) a
    checking_right goals steps w f in_use a q =
        let v : Verdict = checks alike book (length cells) (capacity supplied - length cells) cells goals steps in
        given (check goals steps w f)
        (λ z. (v : Verdict) × Check book es (capacity supplied - length cells) goals steps v × (z ≡ answer_to v))
        (answer_to v) cells (
          v,
          checked alike law book rules k sound cells here goals in_use (capacity supplied - length cells) fits
              steps,
          refl,
        )
        here a q

    -- a node
    node_right : (f : ℕ) (args : List ℕ) (a : Answered V) →
        answers alike book supplied turns cells (write_node f args) ≡ Some a →
        Fine (write_node f args) (Defined book supplied k (write_node f args)) a
    unfolding answers
    node_right f args a q =
        let c : Call V = write_node f args in
        let Q₁ : Answer → Type 0 = NextCell supplied k in
        let Q₂ : Answer → Type 0 = λ x. UsedOr k args x (Q₁ x) in
        let Q₃ : Answer → Type 0 = λ x. If (4 < length args) (x ≡ refused too_many_arguments) (Q₂ x) in
        small_right c (λ r. here) f Q₃ _ a
        (λ h. refusing_right c (λ r. here) (4 < length args) too_many_arguments Q₂
        (ltb 4 (length args)) (below 4 (length args)) (not_below 4 (length args)) _ a
        (used_right c (λ r. here) args Q₁ _ a (λ u. writes_right (Content.node f args) (h, u) a))) q

    -- an equate
    equate_right : (x y work : ℕ) (a : Answered V) →
        answers alike book supplied turns cells (equate x y work) ≡ Some a →
        Fine (equate x y work) (Defined book supplied k (equate x y work)) a
    unfolding answers
    equate_right x y work a q =
        let c : Call V = equate x y work in
        let n : ℕ = 9 * capacity supplied in
        let Q₁ : Answer → Type 0 =
        λ z. If (Solvable (es ++ (equal x y ∷ []))) (z ≡ accepted) (z ≡ refused Refusal.clash) in
        let Q₂ : Answer → Type 0 = λ z. If (work < n) (z ≡ refused too_short) (Q₁ z) in
        used_right c (λ r. here) (x ∷ y ∷ []) Q₂ _ a
        (λ u. refusing_right c (λ r. here) (work < n) too_short Q₁ (ltb work n) (below work n) (not_below work n)
        _ a
        (unifying_right x y work u.0 u.1.0 a)) q

    -- a compare
    compare_right : (x y work : ℕ) (a : Answered V) →
        answers alike book supplied turns cells (compare x y work) ≡ Some a →
        Fine (compare x y work) (Defined book supplied k (compare x y work)) a
    unfolding answers
    compare_right x y work a q =
        let c : Call V = compare x y work in
        let n : ℕ = 9 * capacity supplied in
        let Q₁ : Answer → Type 0 = λ z. If (Entails es x y) (z ≡ same) (z ≡ different) in
        let Q₂ : Answer → Type 0 = λ z. If (work < n) (z ≡ refused too_short) (Q₁ z) in
        used_right c (λ r. here) (x ∷ y ∷ []) Q₂ _ a
        (λ u. refusing_right c (λ r. here) (work < n) too_short Q₁ (ltb work n) (below work n) (not_below work n)
        _ a
        (comparing_right x y work u.0 u.1.0 a)) q

    -- a solve
    solve_right : (goals : List ℕ) (b s work frames : ℕ) (a : Answered V) →
        answers alike book supplied turns cells (solve goals b s work frames) ≡ Some a →
        Fine (solve goals b s work frames) (Defined book supplied k (solve goals b s work frames)) a
    unfolding answers
    solve_right goals b s work frames a q =
        let c : Call V = solve goals b s work frames in
        let n : ℕ = 9 * capacity supplied in
        let Q₁ : Answer → Type 0 =
        λ z. (o : Outcome) × Solve book es (limits supplied k b s) goals o × (z ≡ answer_of o) in
        let Q₂ : Answer → Type 0 = λ z. If ((work < n) ⊎ (frames < served s)) (z ≡ refused too_short) (Q₁ z) in
        let Q₃ : Answer → Type 0 = λ z. AtomsOr k goals z (Q₂ z) in
        let Q₄ : Answer → Type 0 = λ z. UsedOr k goals z (Q₃ z) in
        refusing_right c (λ r. here) (8 < length goals) too_long Q₄
        (ltb 8 (length goals)) (below 8 (length goals)) (not_below 8 (length goals)) _ a
        (used_right c (λ r. here) goals Q₃ _ a
        (λ u. atoms_right c (λ r. here) goals Q₂ _ a
        (refusing_right c (λ r. here) ((work < n) ⊎ (frames < served s)) too_short Q₁
        (ltb work n || ltb frames (served s)) (either work n frames (served s))
        (neither work n frames (served s)) _ a
        (searching_right goals b s work frames u a)))) q

    -- a check
    check_right : (goals : List ℕ) (steps : List Step) (work frames : ℕ) (a : Answered V) →
        answers alike book supplied turns cells (check goals steps work frames) ≡ Some a →
        Fine (check goals steps work frames) (Defined book supplied k (check goals steps work frames)) a
    unfolding answers
    check_right goals steps work frames a q =
        let c : Call V = check goals steps work frames in
        let n : ℕ = 9 * capacity supplied in
        let l : ℕ = length steps in
        let Q₁ : Answer → Type 0 =
        λ z. (v : Verdict) × Check book es (capacity supplied - length cells) goals steps v × (z ≡ answer_to v) in
        let Q₂ : Answer → Type 0 = λ z. If ((work < n) ⊎ (frames < l)) (z ≡ refused too_short) (Q₁ z) in
        let Q₃ : Answer → Type 0 = λ z. AtomsOr k goals z (Q₂ z) in
        let Q₄ : Answer → Type 0 = λ z. UsedOr k goals z (Q₃ z) in
        refusing_right c (λ r. here) ((8 < length goals) ⊎ (4096 < l)) too_long Q₄
        (ltb 8 (length goals) || ltb 4096 l) (either 8 (length goals) 4096 l) (neither 8 (length goals) 4096 l) _ a
        (used_right c (λ r. here) goals Q₃ _ a
        (λ u. atoms_right c (λ r. here) goals Q₂ _ a
        (refusing_right c (λ r. here) ((work < n) ⊎ (frames < l)) too_short Q₁
        (ltb work n || ltb frames l) (either work n frames l) (neither work n frames l) _ a
        (checking_right goals steps work frames u a)))) q

    -- any call
    calls_right : (c : Call V) (a : Answered V) → answers alike book supplied turns cells c ≡ Some a →
        Fine c (Defined book supplied k c) a
    unfolding answers
    calls_right write_open a q = writes_right Content.variable tt a q
    calls_right (write_leaf v) a q = writes_right (Content.leaf v) tt a q
    calls_right (write_node f args) a q = node_right f args a q
    calls_right (equate x y work) a q = equate_right x y work a q
    calls_right (compare x y work) a q = compare_right x y work a q
    calls_right (solve goals b s work frames) a q = solve_right goals b s work frames a q
    calls_right (check goals steps work frames) a q = check_right goals steps work frames a q

-- every answer, whatever is known
pub answers_right : (V : Type 0) → AnswersAreRight V
answers_right V alike law book rules supplied turns k sound cells holds c a q =
    go k (λ i. record { used = holds.used i; equations = k.equations }) sound
  where
    At : Known V → Type 0
    At z = Defined book supplied z c a.answer × Holds a.cells (after book z c a.answer)

    now : Known V
    now = record { used = length cells; equations = k.equations }

    go : (z : Known V) → now ≡ z → Sound z → At z
    go z p s =
        subst At p
        (calls_right alike law book rules supplied turns cells k.equations holds.solved holds.means
        (subst Sound (sym p) s) c a q)
