-- What cells state, and the solved form, in which every join is carried out to the end. Assumes nothing.
use Rattle.std.specs.Prelude.{◌≡◌, ℕ, suc, ◌<◌, ◌≤◌, List, [], ◌∷◌, length, Some, None, Option}
use Rattle.std.specs.List.{AllByRecursion}
use Rattle.theory.specs.Equations.{Equation, is_leaf, is_node, equal}
use Rattle.unify.specs.Cells.{Content, variable, leaf, node, Cell, most, content_at, joined_at, rank, root}

module _ {V : Type 0} where
  -- the equation of a cell's content, before others
  abbrev pub and_content : ℕ → Content V → List (Equation V ℕ) → List (Equation V ℕ)
  and_content i variable es = es
  and_content i (leaf v) es = is_leaf i v ∷ es
  and_content i (node f xs) es = is_node i f xs ∷ es

  -- the equation of a cell's join, before others
  abbrev pub and_join : ℕ → Option ℕ → List (Equation V ℕ) → List (Equation V ℕ)
  and_join i None es = es
  and_join i (Some j) es = equal i j ∷ es

  -- what the cells state, where the first of them has number i
  unfoldable pub stated_from : ℕ → List (Cell V) → List (Equation V ℕ)
  stated_from i [] = []
  stated_from i (c ∷ cs) = and_content i c.content (and_join i c.joined (stated_from (suc i) cs))

  -- what the cells state: each leaf and node written, and each join
  unfoldable pub stated : List (Cell V) → List (Equation V ℕ)
  stated cells = stated_from 0 cells

  -- what is joined is open, or both are leaves of one value, or nodes of one symbol with related arguments
  abbrev pub Matches : (List ℕ → List ℕ → Type 0) → Content V → Content V → Type 0
  Matches R variable d = Unit {0}
  Matches R (leaf v) variable = ⊥
  Matches R (leaf v) (leaf w) = v ≡ w
  Matches R (leaf v) (node g ys) = ⊥
  Matches R (node f xs) variable = ⊥
  Matches R (node f xs) (leaf w) = ⊥
  Matches R (node f xs) (node g ys) = (f ≡ g) × R xs ys

  -- as many arguments on both sides, with the same root in each place
  abbrev pub SameRoots : List (Cell V) → List ℕ → List ℕ → Type 0
  SameRoots cells [] [] = Unit {0}
  SameRoots cells [] (y ∷ ys) = ⊥
  SameRoots cells (x ∷ xs) [] = ⊥
  SameRoots cells (x ∷ xs) (y ∷ ys) = (root cells x ≡ root cells y) × SameRoots cells xs ys

  -- what a write asks of a node: 16 bits of symbol, and arguments that are lower cells
  abbrev pub Lower : List (Cell V) → Type 0
  Lower cells = (i f : ℕ) (xs : List ℕ) → content_at cells i ≡ node f xs → (f < 65536) × AllByRecursion (λ x. x < i) xs

  -- each join goes to a lower rank
  abbrev pub Descends : List (Cell V) → Type 0
  Descends cells = (i j : ℕ) → joined_at cells i ≡ Some j → rank cells j < rank cells i

  -- each joined cell agrees with its target
  abbrev pub Agrees : List (Cell V) → Type 0
  Agrees cells = (i j : ℕ) → joined_at cells i ≡ Some j →
      Matches (SameRoots cells) (content_at cells i) (content_at cells j)

  -- the solved form
  pub record Solved (cells : List (Cell V)) : Type 0 where
    pub few : length cells ≤ most
    pub lower : Lower cells
    pub descends : Descends cells
    pub agrees : Agrees cells
