-- How check goes through a record, and what each of its verdicts says.
use Rattle.std.specs.Prelude.{◌≡◌, ℕ, suc, ◌<◌, ◌≤◌, ◌≢◌, ◌⊎◌, ◌↔◌, List, [], ◌∷◌, ◌++◌, length}
use Rattle.theory.specs.Equations.{Equation, Solvable}
use Rattle.theory.specs.Entries.{Entry}
use Rattle.theory.specs.Records.{Step, Goal, Replay, Replayed, broken, went, start, step, replay, together}
use Rattle.theory.specs.Records.{Leads, Lawful}

-- A where P holds, and B where it does not
abbrev pub If : Type 0 → Type 0 → Type 0 → Type 0
If P A B = (P × A) ⊎ ((P → ⊥) × B)

-- what check says: passed, the first bad step with the number of the rule that it breaks, or that an instance
-- does not fit
pub data Verdict : Type 0 where
  passed : Verdict
  unlawful : ℕ → ℕ → Verdict
  no_cells : Verdict

-- rule 6: nothing may be pending at the end, which is the i-th step
abbrev pub AtEnd : List Goal → ℕ → Verdict → Type 0
AtEnd [] i v = v ≡ passed
AtEnd (g ∷ gs) i v = v ≡ unlawful i 6

module _ {V : Type 0} (book : List (Entry V)) (known : List (Equation V ℕ)) (free : ℕ) where
  -- the steps from the i-th on are tested in order: each for its form, then for cells, then for a reading
  abbrev pub CheckFrom : Replay V → ℕ → List Step → Verdict → Type 0
  CheckFrom r i [] v = AtEnd r.pending i v
  CheckFrom r i (x ∷ xs) v =
      elim (step book r x) [
        | broken rule ↦ v ≡ unlawful i rule
        | went m ↦
            If (free < m.cells)
            (v ≡ no_cells)
            (If (Solvable (together known m)) (CheckFrom m (suc i) xs v) (v ≡ unlawful i 7))
      ]

  -- check comes to the verdict on the record
  abbrev pub Check : List ℕ → List Step → Verdict → Type 0
  Check goals steps v = CheckFrom (start goals) 0 steps v

  -- the record is lawful, and its instances fit into the free cells
  abbrev pub Fitting : List ℕ → List Step → Type 0
  Fitting goals steps = Lawful book known goals steps × ((replay book goals steps).cells ≤ free)

  -- the steps break no rule, their instances fit, and some reading is left after them
  pub record Good (goals : List ℕ) (steps : List Step) (r : Replay V) : Type 0 where
    pub leads : Leads book (start goals) steps r
    pub cells : r.cells ≤ free
    pub solvable : Solvable (together known r)

  -- the step, by what comes of it, breaks the rule: by its form, or because it fits but leaves no reading (rule 7)
  abbrev pub Breaks : Replayed V → ℕ → Type 0
  Breaks (broken r) rule = rule ≡ r
  Breaks (went m) rule = (rule ≡ 7) × (m.cells ≤ free) × ¬ Solvable (together known m)

  -- the next step breaks the rule; where there is none, goals are still pending (rule 6)
  abbrev pub BreaksNext : Replay V → List Step → ℕ → Type 0
  BreaksNext r [] rule = (rule ≡ 6) × (r.pending ≢ [])
  BreaksNext r (x ∷ xs) rule = Breaks (step book r x) rule

  -- the step keeps to its form, and its instance does not fit
  abbrev pub Overflows : Replayed V → Type 0
  Overflows (broken r) = ⊥
  Overflows (went m) = free < m.cells

  -- there is a next step, and its instance does not fit
  abbrev pub OverflowsNext : Replay V → List Step → Type 0
  OverflowsNext r [] = ⊥
  OverflowsNext r (x ∷ xs) = Overflows (step book r x)

  -- the record is good up to some step, of which the statement holds
  pub record GoodUpTo (goals : List ℕ) (steps : List Step) (P : Replay V → List Step → Type 0) : Type 0 where
    pub before : List Step
    pub rest : List Step
    pub whole : steps ≡ before ++ rest
    pub at : Replay V
    pub good : Good goals before at
    pub next : P at rest

  -- the i-th step is the first bad one, and breaks the rule
  abbrev pub FirstBad : List ℕ → List Step → ℕ → ℕ → Type 0
  FirstBad goals steps i rule =
      (u : GoodUpTo goals steps (λ r rest. BreaksNext r rest rule)) × (length u.before ≡ i)

  -- the verdict says exactly what it should
  pub record Exact (goals : List ℕ) (steps : List Step) (v : Verdict) : Type 0 where
    pub passes : (v ≡ passed) ↔ Fitting goals steps
    pub names : (i rule : ℕ) → (v ≡ unlawful i rule) ↔ FirstBad goals steps i rule
    pub lacks : (v ≡ no_cells) ↔ GoodUpTo goals steps OverflowsNext
