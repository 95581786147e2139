-- The answer that each call has to give, by what is known of the slate.
use Rattle.std.specs.Prelude.{◌≡◌, ℕ, ◌-◌, ◌*◌, ◌<◌, min, true, false, ◌⊎◌, List, [], ◌∷◌, ◌++◌, length, Some, None, Option, nat_lt}
use Rattle.theory.specs.Equations.{Equation, equal, Solvable, Entails, IsAtom}
use Rattle.theory.specs.Entries.{Entry}
use Rattle.theory.specs.Records.{Term}
use Rattle.theory.specs.Search.{Limits, Outcome, granted, failed, spent, full, short, Solve}
use Rattle.theory.specs.Check.{If, Verdict, passed, unlawful, no_cells, Check}
use Rattle.theory.specs.Calls.{Call, write_open, write_leaf, write_node, equate, compare, solve, check}
use Rattle.theory.specs.Calls.{not_in_use, too_many_arguments, not_an_atom, too_long, too_short}
use Rattle.theory.specs.Calls.{unlawful_at}
use Rattle.theory.specs.Calls.{no_cell, clash, no_cell_after, spent_after, full_after}
use Rattle.theory.specs.Calls.{Answer, wrote, accepted, same, different, grants, fails, passes, refused}
use Rattle.theory.specs.Known.{Known}

-- how many cells the slate has: those past the first 2,048 are no part of it
abbrev pub capacity : ℕ → ℕ
capacity supplied = min supplied 2048

-- how many steps a record list serves
abbrev pub served : ℕ → ℕ
served steps = min steps 4096

-- the first cell of the list that is not in use
abbrev pub first_unused : ℕ → List ℕ → Option ℕ
first_unused used [] = None
first_unused used (c ∷ cs) = elim (nat_lt c used) [ true ↦ first_unused used cs | false ↦ Some c ]

-- the first goal that is no atom
abbrev pub FirstNonAtom : {V : Type 0} → List (Equation V ℕ) → List ℕ → Option ℕ → Type 0
FirstNonAtom es [] o = o ≡ None
FirstNonAtom es (g ∷ gs) o = If (IsAtom es g) (FirstNonAtom es gs o) (o ≡ Some g)

-- the answer that a search gives
abbrev pub answer_of : Outcome → Answer
answer_of (granted n steps) = grants n steps
answer_of (failed n) = fails n
answer_of (spent n) = refused (spent_after n)
answer_of (full n) = refused (full_after n)
answer_of (short n) = refused (no_cell_after n)

-- the answer that a verdict of check gives
abbrev pub answer_to : Verdict → Answer
answer_to passed = passes
answer_to (unlawful s r) = refused (unlawful_at s r)
answer_to no_cells = refused no_cell

module _ {V : Type 0} where
  -- the first cell that is not in use is refused; where all are in use, the rest holds
  abbrev pub UsedOr : Known V → List ℕ → Answer → Type 0 → Type 0
  UsedOr k cs a rest = elim (first_unused k.used cs) [ Some c ↦ a ≡ refused (not_in_use c) | None ↦ rest ]

  -- the first goal that is no atom is refused; where all are atoms, the rest holds
  abbrev pub AtomsOr : Known V → List ℕ → Answer → Type 0 → Type 0
  AtomsOr k goals a rest =
      (o : Option ℕ) × FirstNonAtom k.equations goals o ×
      (elim o [ Some c ↦ a ≡ refused (not_an_atom c) | None ↦ rest ])

  -- the next cell is written, where one is free
  abbrev pub NextCell : ℕ → Known V → Answer → Type 0
  NextCell supplied k a = If (k.used < capacity supplied) (a ≡ wrote k.used) (a ≡ refused no_cell)

  -- the limits of a search
  abbrev pub limits : ℕ → Known V → ℕ → ℕ → Limits
  limits supplied k budget steps =
      record { budget = budget; room = served steps; free = capacity supplied - k.used }

module _ {V : Type 0} (book : List (Entry V)) (supplied : ℕ) where
  -- the answer of a call, of which each test is made only where those before it refuse nothing
  abbrev pub Defined : Known V → Call V → Answer → Type 0
  Defined k write_open a = NextCell supplied k a
  Defined k (write_leaf v) a = NextCell supplied k a
  Defined k (write_node f args) a =
      (f < 65536) × If (4 < length args) (a ≡ refused too_many_arguments) (UsedOr k args a (NextCell supplied k a))
  Defined k (equate x y work) a =
      UsedOr k (x ∷ y ∷ []) a
      (If (work < 9 * capacity supplied) (a ≡ refused too_short)
      (If (Solvable (k.equations ++ (equal x y ∷ []))) (a ≡ accepted) (a ≡ refused clash)))
  Defined k (compare x y work) a =
      UsedOr k (x ∷ y ∷ []) a
      (If (work < 9 * capacity supplied) (a ≡ refused too_short)
      (If (Entails k.equations x y) (a ≡ same) (a ≡ different)))
  Defined k (solve goals budget steps work frames) a =
      If (8 < length goals) (a ≡ refused too_long)
      (UsedOr k goals a (AtomsOr k goals a
      (If ((work < 9 * capacity supplied) ⊎ (frames < served steps)) (a ≡ refused too_short)
      ((o : Outcome) × Solve book k.equations (limits supplied k budget steps) goals o × (a ≡ answer_of o)))))
  Defined k (check goals steps work frames) a =
      If ((8 < length goals) ⊎ (4096 < length steps)) (a ≡ refused too_long)
      (UsedOr k goals a (AtomsOr k goals a
      (If ((work < 9 * capacity supplied) ⊎ (frames < length steps)) (a ≡ refused too_short)
      ((v : Verdict) × Check book k.equations (capacity supplied - k.used) goals steps v ×
      (a ≡ answer_to v)))))

-- the statement holds or does not, and it is known which
abbrev pub Decided : Type 0 → Type 0
Decided P = P ⊎ (P → ⊥)

-- the questions about equations that the answers turn on are decided
pub record Decisions (V : Type 0) : Type 0 where
  pub of_cells : (es : List (Equation V ℕ)) → Decided (Solvable es)
  pub of_terms : (es : List (Equation V Term)) → Decided (Solvable es)
  pub entailed : (es : List (Equation V ℕ)) (x y : ℕ) → Decided (Entails es x y)
  pub atom : (es : List (Equation V ℕ)) (x : ℕ) → Decided (IsAtom es x)

-- the symbol number of a node that is written has 16 bits
abbrev pub Symbols : {V : Type 0} → Call V → Type 0
Symbols write_open = Unit {0}
Symbols (write_leaf v) = Unit {0}
Symbols (write_node f args) = f < 65536
Symbols (equate x y w) = Unit {0}
Symbols (compare x y w) = Unit {0}
Symbols (solve goals b s w f) = Unit {0}
Symbols (check goals steps w f) = Unit {0}
