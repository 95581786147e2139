-- The cells of a slate, and the root that a chain of joins leads to. Assumes nothing.
use Rattle.std.specs.Prelude.{ℕ, zero, suc, ◌+◌, List, [], ◌∷◌, Some, None, Option}

-- what was written into a cell: an open variable, a leaf, or a node over other cells
pub data Content (V : Type 0) : Type 0 where
  variable : Content V
  leaf : V → Content V
  node : ℕ → List ℕ → Content V

-- a cell keeps its content for good; only its join comes and goes
pub record Cell (V : Type 0) : Type 0 where
  pub content : Content V
  pub joined : Option ℕ

-- most cells that a slate can have, and more than the rank of any leaf or node
abbrev pub most : ℕ
most = 2048

-- a leaf or node has its own number as its rank; variables come above them all
abbrev pub rank_of : {V : Type 0} → Content V → ℕ → ℕ
rank_of variable i = most + i
rank_of (leaf v) i = i
rank_of (node f xs) i = i

-- where a chain of joins goes on from the i-th cell, or that it ends there
abbrev pub onward : Option ℕ → ℕ → (ℕ → ℕ) → ℕ
onward None i go = i
onward (Some j) i go = go j

-- one for a cell that is joined to none
abbrev pub one_if_none : Option ℕ → ℕ
one_if_none None = 1
one_if_none (Some j) = 0

module _ {V : Type 0} where
  -- the content of the i-th cell; past the last cell all is variable
  unfoldable pub content_at : List (Cell V) → ℕ → Content V
  content_at [] i = variable
  content_at (c ∷ cs) zero = c.content
  content_at (c ∷ cs) (suc i) = content_at cs i

  -- what the i-th cell is joined to, if anything
  unfoldable pub joined_at : List (Cell V) → ℕ → Option ℕ
  joined_at [] i = None
  joined_at (c ∷ cs) zero = c.joined
  joined_at (c ∷ cs) (suc i) = joined_at cs i

  -- the cells with the i-th one joined to that cell, or to none
  unfoldable pub rejoin : List (Cell V) → ℕ → Option ℕ → List (Cell V)
  rejoin [] i t = []
  rejoin (c ∷ cs) zero t = record { content = c.content; joined = t } ∷ cs
  rejoin (c ∷ cs) (suc i) t = c ∷ rejoin cs i t

  -- joins always go to a cell of lower rank
  unfoldable pub rank : List (Cell V) → ℕ → ℕ
  rank cells i = rank_of (content_at cells i) i

  -- follows at most so many joins
  unfoldable pub chase : ℕ → List (Cell V) → ℕ → ℕ
  chase zero cells i = i
  chase (suc n) cells i = onward (joined_at cells i) i (λ j. chase n cells j)

  -- the cell at the end of the i-th cell's chain of joins
  unfoldable pub root : List (Cell V) → ℕ → ℕ
  root cells i = chase (rank cells i) cells i

  -- how many cells are joined to none
  unfoldable pub unjoined : List (Cell V) → ℕ
  unjoined [] = 0
  unjoined (c ∷ cs) = one_if_none c.joined + unjoined cs
