-- A new cell after the others. Assumes nothing.
use Rattle.std.specs.Prelude.{◌≡◌, ◌<◌, List, [], ◌∷◌, ◌++◌, length, None}
use Rattle.std.specs.List.{AllByRecursion}
use Rattle.unify.specs.Cells.{Content, variable, leaf, node, Cell, most}
use Rattle.unify.specs.Solved.{and_content, stated, Solved}

module _ {V : Type 0} where
  -- the cells with a new one, joined to none
  unfoldable pub write : List (Cell V) → Content V → List (Cell V)
  write cells c = cells ++ (record { content = c; joined = None } ∷ [])

  -- a node to be written has a symbol of 16 bits, over cells that are there
  abbrev pub Writable : List (Cell V) → Content V → Type 0
  Writable cells variable = Unit {0}
  Writable cells (leaf v) = Unit {0}
  Writable cells (node f xs) = (f < 65536) × AllByRecursion (λ x. x < length cells) xs

  -- cells with a new one are solved if they were, and state what they did and what is new
  pub record Wrote (cells : List (Cell V)) (c : Content V) : Type 0 where
    pub solved : Solved (write cells c)
    pub states : stated (write cells c) ≡ stated cells ++ and_content (length cells) c []

-- no cells are solved, and writing keeps them so
pub record WritingKeepsSolved (V : Type 0) : Type 0 where
  pub none : Solved {V = V} []
  pub one_more : (cells : List (Cell V)) → Solved cells → length cells < most →
      (c : Content V) → Writable cells c → Wrote cells c
