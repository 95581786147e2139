-- What holds of solved cells, of the unifier and of the comparison. Assumes nothing.
use Rattle.std.specs.Prelude.{◌≡◌, ℕ, ◌<◌, Bool, true, false, ◌↔◌, List, length, ◌≢◌}
use Rattle.theory.specs.Trees.{Tree, IsTree, Same}
use Rattle.theory.specs.Equations.{MeetsAll, Solves, Entails, IsAtom}
use Rattle.unify.specs.Cells.{Content, variable, leaf, node, Cell, content_at, root}
use Rattle.unify.specs.Solved.{stated, Solved}
use Rattle.unify.specs.Readings.{OpenRoot}
use Rattle.unify.specs.Unify.{State, Move, went, clash, clear, unify, compare}

-- a test that says whether two values are the same
pub record Decides {V : Type 0} (same : V → V → Bool) : Type 0 where
  pub yields : (v w : V) → same v w ≡ true → v ≡ w
  pub denies : (v w : V) → same v w ≡ false → v ≢ w

-- solved cells have a reading for every choice of trees at the open roots
abbrev pub SolvedCellsHaveReadings : Type 0 → Type 0
SolvedCellsHaveReadings V = (cells : List (Cell V)) → Solved cells →
    (given : ℕ → Tree V) → ((i : ℕ) → IsTree (given i)) →
    (ρ : ℕ → Tree V) × Solves (stated cells) ρ × ((i : ℕ) → OpenRoot cells i → Same (ρ i) (given i))

module _ {V : Type 0} where
  -- the same number of cells, with the same contents
  pub record SameContents (cells cs : List (Cell V)) : Type 0 where
    pub number : length cs ≡ length cells
    pub contents : (i : ℕ) → content_at cs i ≡ content_at cells i

  -- the joins of the trail taken back, the cells are the old ones
  abbrev pub Undone : List (Cell V) → State V → Type 0
  Undone cells s = clear s.trail s.cells ≡ cells

  -- unifying went well: the cells are solved, and their readings are the old ones that meet the new equation
  pub record Agreed (cells : List (Cell V)) (a b : ℕ) (s : State V) : Type 0 where
    pub solved : Solved s.cells
    pub contents : SameContents cells s.cells
    pub undone : Undone cells s
    pub readings : (ρ : ℕ → Tree V) →
        MeetsAll ρ (stated s.cells) ↔ (MeetsAll ρ (stated cells) × Same (ρ a) (ρ b))

  -- unifying met a clash: no reading meets the new equation
  pub record Refused (cells : List (Cell V)) (a b : ℕ) (s : State V) : Type 0 where
    pub undone : Undone cells s
    pub hopeless : (ρ : ℕ → Tree V) → MeetsAll ρ (stated cells) → Same (ρ a) (ρ b) → ⊥

  -- what unifying comes to
  abbrev pub Unified : List (Cell V) → ℕ → ℕ → Move V → Type 0
  Unified cells a b (went s) = Agreed cells a b s
  Unified cells a b (clash s) = Refused cells a b s

  -- comparing went well: every reading gives the two terms the same tree
  pub record Equal (cells : List (Cell V)) (a b : ℕ) (s : State V) : Type 0 where
    pub undone : Undone cells s
    pub entails : Entails (stated cells) a b

  -- comparing met a clash: this reading tells the two terms apart
  pub record Different (cells : List (Cell V)) (a b : ℕ) (s : State V) : Type 0 where
    pub undone : Undone cells s
    pub ρ : ℕ → Tree V
    pub solves : Solves (stated cells) ρ
    pub apart : Same (ρ a) (ρ b) → ⊥

  -- what comparing comes to
  abbrev pub Compared : List (Cell V) → ℕ → ℕ → Move V → Type 0
  Compared cells a b (went s) = Equal cells a b s
  Compared cells a b (clash s) = Different cells a b s

  -- a node was written there
  abbrev pub IsNode : Content V → Type 0
  IsNode variable = ⊥
  IsNode (leaf v) = ⊥
  IsNode (node f xs) = Unit {0}

-- the unifier is right on solved cells
abbrev pub UnifyIsRight : (V : Type 0) → Type 0
UnifyIsRight V = (same : V → V → Bool) → Decides same → (cells : List (Cell V)) → Solved cells →
    (a b : ℕ) → a < length cells → b < length cells → Unified cells a b (unify same cells a b)

-- so is the comparison
abbrev pub CompareIsRight : (V : Type 0) → Type 0
CompareIsRight V = (same : V → V → Bool) → Decides same → (cells : List (Cell V)) → Solved cells →
    (a b : ℕ) → a < length cells → b < length cells → Compared cells a b (compare same cells a b)

-- a term is a node or joined to one exactly when a node stands at its root
abbrev pub AtomsAreNodes : (V : Type 0) → Type 0
AtomsAreNodes V = (cells : List (Cell V)) → Solved cells → (i : ℕ) →
    IsNode (content_at cells (root cells i)) ↔ IsAtom (stated cells) i
