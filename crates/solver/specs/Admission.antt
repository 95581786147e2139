-- Which goals and lists solve and check take.
use Rattle.std.specs.Prelude.{◌≡◌, ℕ, ◌*◌, ◌<◌, ◌≤◌, ◌||◌, List, length, Some, None, Ok, Err, Option, Result, nat_lt}
use Rattle.std.specs.List.{AllByRecursion}
use Rattle.theory.specs.Calls.{refused, too_short}
use Rattle.theory.specs.Answers.{capacity, first_unused}
use Rattle.unify.specs.Cells.{Cell}
use Rattle.searching.specs.Answering.{Answered, answered, refusing, if_used, if_atoms, first_non_atom}
use Rattle.slate.specs.declared.refusal.Refusal.{Refusal}
use Rattle.slate.specs.declared.refusal.Refusal.TheVariants.{NotAnAtom}
use Rattle.slate.specs.Refusals.{refusal_of}

module _ {V : Type 0} where
  -- whether all goals are atoms, or which is the first that is none
  abbrev pub AllAtoms : {U : Type 0} → List (Cell V) → List ℕ → Result U Refusal → Type 0
  AllAtoms cs goals (Ok u) = first_non_atom cs goals ≡ None
  AllAtoms cs goals (Err e) = (c : ℕ) × (e ≡ NotAnAtom c) × (first_non_atom cs goals ≡ Some c)

  -- the tests before the rest of an answer: cells in use, atoms, and lists that are long enough
  abbrev pub gate : List (Cell V) → ℕ → List ℕ → ℕ → ℕ → ℕ → Option (Answered V) → Option (Answered V)
  gate cs supplied goals work frames needed rest =
      if_used cs (first_unused (length cs) goals) (if_atoms cs (first_non_atom cs goals)
      (refusing cs too_short (nat_lt work (9 * capacity supplied) || nat_lt frames needed) rest))

  -- the goals and the lists pass all tests
  pub record Admitted (cs : List (Cell V)) (used supplied : ℕ) (goals : List ℕ) (work frames needed : ℕ) : Type 0 where
    pub passes : (rest : Option (Answered V)) → gate cs supplied goals work frames needed rest ≡ rest
    pub low : AllByRecursion (λ g. g < used) goals
    pub long : 9 * capacity supplied ≤ work
    pub framed : needed ≤ frames

  -- they pass, or they are refused as the first test says that they do not pass
  abbrev pub Admits : {U : Type 0} → List (Cell V) → ℕ → ℕ → List ℕ → ℕ → ℕ → ℕ → Result U Refusal → Type 0
  Admits cs used supplied goals work frames needed (Ok u) = Admitted cs used supplied goals work frames needed
  Admits cs used supplied goals work frames needed (Err e) =
      (rest : Option (Answered V)) → gate cs supplied goals work frames needed rest ≡ answered (refused (refusal_of e)) cs
