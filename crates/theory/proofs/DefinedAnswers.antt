-- What a defined answer says of the call.
use Rattle.std.proofs.Common.{◌≡◌, ℕ, ◌-◌, ◌<◌, ◌≤◌, Bool, true, false, ltb, ◌⊎◌, List, [], ◌∷◌, ◌++◌, Some, None, Option, refl, subst, inl, inr, lit≤}
use Rattle.std.specs.List.{AllByRecursion}
use Rattle.std.proofs.lemmas.Bool.{ltb-true}
use Rattle.theory.specs.Equations.{equal, Solvable, Entails}
use Rattle.theory.specs.Entries.{Entry}
use Rattle.theory.specs.Records.{Step}
use Rattle.theory.specs.Search.{Outcome, granted, failed, spent, full, short, Solve}
use Rattle.theory.specs.Check.{If, Verdict, Check}
use Rattle.theory.specs.Calls.{write_node, equate, compare, solve, check}
use Rattle.theory.specs.Calls.{Refusal, not_in_use, too_many_arguments, not_an_atom, too_long, too_short}
use Rattle.theory.specs.Calls.{clash, number}
use Rattle.theory.specs.Calls.{Answer, wrote, accepted, same, different, grants, fails, refused}
use Rattle.theory.specs.Known.{Known}
use Rattle.theory.specs.Answers.{capacity, first_unused, answer_of, answer_to, UsedOr, AtomsOr}
use Rattle.theory.specs.Answers.{limits, Defined}
use Rattle.theory.specs.Sittings.{NotTaken}
use Rattle.theory.proofs.Elements.{never}

-- where no cell is the first unused, all are in use
all_used : (used : ℕ) (cs : List ℕ) → first_unused used cs ≡ None → AllByRecursion (λ c. c < used) cs
all_used used [] e = tt
all_used used (c ∷ cs) e = go (ltb c used) refl e (all_used used cs)
  where
    go : (b : Bool) → ltb c used ≡ b →
        Path (Option ℕ) (elim b [ true ↦ first_unused used cs | false ↦ Some c ]) None →
        (first_unused used cs ≡ None → AllByRecursion (λ c. c < used) cs) → AllByRecursion (λ c. c < used) (c ∷ cs)
    go true q f later = (ltb-true c used q, later f)
    go false q f later = never (cc)

-- an answer that is no refusal was not refused
not_taken : {A : Type 0} (a : Answer) → ((r : Refusal) → a ≡ refused r → A) → NotTaken a → A
not_taken a f (r, e, l) = f r e

-- one test after another
then : {S Q R : Type 0} → S ⊎ Q → (Q → S ⊎ R) → S ⊎ R
then (inl r) f = inl r
then (inr q) f = f q

-- what is left where the call was taken
taken : {S Q : Type 0} → (S → ⊥) → S ⊎ Q → Q
taken n (inl s) = absurd (n s)
taken n (inr q) = q

-- a test that refuses the input, or the rest
unless : {P Q : Type 0} (a : Answer) (r : Refusal) → number r ≤ 5 → If P (a ≡ refused r) Q → NotTaken a ⊎ Q
unless a r n (inl (p, e)) = inl (r, e, n)
unless a r n (inr (p, q)) = inr q

module _ {V : Type 0} (k : Known V) where
  -- the cells are in use
  abbrev InUse : List ℕ → Type 0
  InUse cs = AllByRecursion (λ c. c < k.used) cs

  -- the call was refused, or its cells are in use
  used_cells : (cs : List ℕ) (a : Answer) (rest : Type 0) → UsedOr k cs a rest → NotTaken a ⊎ (InUse cs × rest)
  used_cells cs a rest u = go (first_unused k.used cs) refl u
    where
      At : Option ℕ → Type 0
      At = elim [ Some c ↦ a ≡ refused (not_in_use c) | None ↦ rest ]

      go : (o : Option ℕ) → first_unused k.used cs ≡ o → At o → NotTaken a ⊎ (InUse cs × rest)
      go None e r = inr (all_used k.used cs e, r)
      go (Some c) e r = inl (not_in_use c, r, lit≤ tt)

  -- the call was refused, or its goals are atoms
  atoms : (goals : List ℕ) (a : Answer) (rest : Type 0) → AtomsOr k goals a rest → NotTaken a ⊎ rest
  atoms goals a rest (o, f, u) = go o u
    where
      At : Option ℕ → Type 0
      At = elim [ Some c ↦ a ≡ refused (not_an_atom c) | None ↦ rest ]

      go : (o : Option ℕ) → At o → NotTaken a ⊎ rest
      go None r = inr r
      go (Some c) r = inl (not_an_atom c, r, lit≤ tt)

module _ {V : Type 0} (book : List (Entry V)) (supplied : ℕ) (k : Known V) where
  -- a node was written over cells in use, at most four
  pub of_node : (f : ℕ) (args : List ℕ) (c : ℕ) → Defined book supplied k (write_node f args) (wrote c) →
      (f < 65536) × InUse k args
  of_node f args c (hf, d) = (
    hf,
    (taken no
        (then (unless (wrote c) too_many_arguments (lit≤ tt) d) (λ q. used_cells k args (wrote c) _ q))).0,
  )
    where
      no : NotTaken (wrote c) → ⊥
      no = not_taken (wrote c) (λ r e. never (cc))

  -- some reading meets the equation together with those accepted
  abbrev Meetable : ℕ → ℕ → Type 0
  Meetable x y = Solvable (k.equations ++ (equal x y ∷ []))

  -- equate accepts where the equation can be met, and else says that it clashes
  of_equate : (x y w : ℕ) (a : Answer) → Defined book supplied k (equate x y w) a →
      NotTaken a ⊎ (InUse k (x ∷ y ∷ []) × If (Meetable x y) (a ≡ accepted) (a ≡ refused clash))
  of_equate x y w a d =
      then (used_cells k (x ∷ y ∷ []) a _ d) (λ z.
      then (unless a too_short (lit≤ tt) z.1) (λ q. inr (z.0, q)))

  pub of_equated : (x y w : ℕ) (a : Answer) → Defined book supplied k (equate x y w) a →
      NotTaken a ⊎ If (Meetable x y) (a ≡ accepted) (a ≡ refused clash)
  of_equated x y w a d = then (of_equate x y w a d) (λ z. inr z.1)

  -- what is accepted is of cells in use and can be met
  pub of_accepted : (x y w : ℕ) → Defined book supplied k (equate x y w) accepted →
      InUse k (x ∷ y ∷ []) × Meetable x y
  of_accepted x y w d = fin (taken no (of_equate x y w accepted d))
    where
      no : NotTaken accepted → ⊥
      no = not_taken accepted (λ r e. never (cc))

      fin : InUse k (x ∷ y ∷ []) × If (Meetable x y) (accepted ≡ accepted) (accepted ≡ refused clash) →
          InUse k (x ∷ y ∷ []) × Meetable x y
      fin (u, inl (s, e)) = (u, s)
      fin (u, inr (n, e)) = never (cc)

  -- compare says same where the terms have the same tree in every reading, and else different
  pub of_compare : (x y w : ℕ) (a : Answer) → Defined book supplied k (compare x y w) a →
      NotTaken a ⊎ If (Entails k.equations x y) (a ≡ same) (a ≡ different)
  of_compare x y w a d = then (used_cells k (x ∷ y ∷ []) a _ d) (λ z. unless a too_short (lit≤ tt) z.1)

  -- the search that a solve makes comes to the outcome
  abbrev SolveOf : List ℕ → ℕ → ℕ → Outcome → Type 0
  SolveOf goals b s o = Solve book k.equations (limits supplied k b s) goals o

  -- the search that a solve made
  of_solve : (goals : List ℕ) (b s w f : ℕ) (a : Answer) → Defined book supplied k (solve goals b s w f) a →
      NotTaken a ⊎ (InUse k goals × ((o : Outcome) × SolveOf goals b s o × (a ≡ answer_of o)))
  of_solve goals b s w f a d =
      then (unless a too_long (lit≤ tt) d) (λ q.
      then (used_cells k goals a _ q) (λ z.
      then (atoms k goals a _ z.1) (λ q.
      then (unless a too_short (lit≤ tt) q) (λ y. inr (z.0, y)))))

  -- it granted
  pub of_granted : (goals : List ℕ) (b s w f n : ℕ) (steps : List Step) →
      Defined book supplied k (solve goals b s w f) (grants n steps) →
      InUse k goals × SolveOf goals b s (granted n steps)
  of_granted goals b s w f n steps d = fin (taken no (of_solve goals b s w f (grants n steps) d))
    where
      no : NotTaken (grants n steps) → ⊥
      no = not_taken (grants n steps) (λ r e. never (cc))

      same_outcome : (o : Outcome) → grants n steps ≡ answer_of o → o ≡ granted n steps
      same_outcome (granted m t) e = cc
      same_outcome (failed m) e = never (cc)
      same_outcome (spent m) e = never (cc)
      same_outcome (full m) e = never (cc)
      same_outcome (short m) e = never (cc)

      fin : InUse k goals × ((o : Outcome) × SolveOf goals b s o × (grants n steps ≡ answer_of o)) →
          InUse k goals × SolveOf goals b s (granted n steps)
      fin (u, (o, t, e)) = (u, subst (SolveOf goals b s) (same_outcome o e) t)

  -- it failed
  pub of_failed : (goals : List ℕ) (b s w f n : ℕ) →
      Defined book supplied k (solve goals b s w f) (fails n) → SolveOf goals b s (failed n)
  of_failed goals b s w f n d = fin (taken no (of_solve goals b s w f (fails n) d))
    where
      no : NotTaken (fails n) → ⊥
      no = not_taken (fails n) (λ r e. never (cc))

      same_outcome : (o : Outcome) → fails n ≡ answer_of o → o ≡ failed n
      same_outcome (granted m t) e = never (cc)
      same_outcome (failed m) e = cc
      same_outcome (spent m) e = never (cc)
      same_outcome (full m) e = never (cc)
      same_outcome (short m) e = never (cc)

      fin : InUse k goals × ((o : Outcome) × SolveOf goals b s o × (fails n ≡ answer_of o)) →
          SolveOf goals b s (failed n)
      fin (u, (o, t, e)) = subst (SolveOf goals b s) (same_outcome o e) t

  -- the verdict that a check came to
  pub of_check : (goals : List ℕ) (steps : List Step) (w f : ℕ) (a : Answer) →
      Defined book supplied k (check goals steps w f) a →
      NotTaken a ⊎
      ((v : Verdict) × Check book k.equations (capacity supplied - k.used) goals steps v × (a ≡ answer_to v))
  of_check goals steps w f a d =
      then (unless a too_long (lit≤ tt) d) (λ q.
      then (used_cells k goals a _ q) (λ z.
      then (atoms k goals a _ z.1) (λ q. unless a too_short (lit≤ tt) q)))
