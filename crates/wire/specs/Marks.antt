-- Which cells of an entry are nodes. Assumes nothing.
use Rattle.std.specs.Prelude.{Bool, true, false, List, map}
use Rattle.theory.specs.Entries.{Part, variable, leaf, node}

module _ {V : Type 0} where
  -- the cell is a node
  abbrev pub node_part : Part V → Bool
  node_part variable = false
  node_part (leaf v) = false
  node_part (node f xs) = true

  -- a mark for each cell, which says whether it is a node
  abbrev pub marks_of : List (Part V) → List Bool
  marks_of ps = map node_part ps
