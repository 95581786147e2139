-- Small slates worked through, with numbers for leaves. Assumes nothing.
use Rattle.std.specs.Prelude.{◌≡◌, ℕ, Bool, true, false, List, [], ◌∷◌, nat_eq}
use Rattle.unify.specs.Cells.{Content, variable, node, Cell}
use Rattle.unify.specs.Unify.{Move, went, clash, unify, compare}
use Rattle.unify.specs.Writing.{write}

-- the slate with these contents, in their order
abbrev pub written : List (Cell ℕ) → List (Content ℕ) → List (Cell ℕ)
written cells [] = cells
written cells (c ∷ contents) = written (write cells c) contents

-- whether a run went well
abbrev pub well : Move ℕ → Bool
well (went s) = true
well (clash s) = false

-- the cells that a run comes to
abbrev pub cells_of : Move ℕ → List (Cell ℕ)
cells_of (went s) = s.cells
cells_of (clash s) = s.cells

-- X and s(X), Y and s(s(Y)), equated one after the other
abbrev pub loops : List (Cell ℕ)
loops =
    let cells = written [] (variable ∷ node 7 (0 ∷ []) ∷ variable ∷ node 7 (2 ∷ []) ∷ node 7 (3 ∷ []) ∷ []) in
    cells_of (unify nat_eq (cells_of (unify nat_eq cells 0 1)) 2 4)

-- two open cells
abbrev pub two_open : List (Cell ℕ)
two_open = written [] (variable ∷ variable ∷ [])

-- z, s(z), s(z, z)
abbrev pub two_counts : List (Cell ℕ)
two_counts = written [] (node 8 [] ∷ node 7 (0 ∷ []) ∷ node 7 (0 ∷ 0 ∷ []) ∷ [])

-- what unifying and comparing say of them
pub record WorkedCases : Type 0 where
  pub loops_are_equal : well (compare nat_eq loops 0 2) ≡ true
  pub open_cells_differ : well (compare nat_eq two_open 0 1) ≡ false
  pub equated_they_are_equal : well (compare nat_eq (cells_of (unify nat_eq two_open 0 1)) 0 1) ≡ true
  pub counts_clash : well (unify nat_eq two_counts 1 2) ≡ false
