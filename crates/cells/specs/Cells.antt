-- The cells of a slate, as the unifier has them and as a sitting has them.
use Rattle.std.specs.Prelude.{ℕ, ◌≤◌, List, [], map, length, take, Some, None, Option}
use Rattle.std.specs.List.{AllByRecursion}
use Rattle.cells.specs.declared.cell.Content.{Content}
use Rattle.cells.specs.declared.cell.Content.TheVariants.{Open, Leaf, Node}
use Rattle.cells.specs.declared.cell.Cell.{Cell}
use Rattle.cells.specs.declared.cell.CellKind.{CellKind}
use Rattle.cells.specs.declared.cell.CellKind.TheVariants as K
use Rattle.unify.specs.Cells as C
use Rattle.unify.specs.Cells.{variable, leaf, node}
use Rattle.unify.specs.Solved.{Solved}
use Rattle.theory.specs.Carried as T

-- what was written, as the unifier has it
abbrev pub content_of : {L : Type 0} → Content L → C.Content L
content_of Open = C.variable
content_of (Leaf v) = C.leaf v
content_of (Node symbol arguments count) = C.node symbol (take count arguments)

-- a cell, as the unifier has it
abbrev pub cell_of : {L : Type 0} → Cell L → C.Cell L
cell_of c = record { content = content_of c.content; joined = c.joined }

-- all cells, as the unifier has them
abbrev pub cells_of : {L : Type 0} → List (Cell L) → List (C.Cell L)
cells_of cells = map cell_of cells

-- the cells that a node was written over; nothing else has any
abbrev pub arguments_of : {L : Type 0} → Content L → List ℕ
arguments_of Open = []
arguments_of (Leaf v) = []
arguments_of (Node symbol arguments count) = take count arguments

-- no more arguments counted than there are
abbrev pub Counted : {L : Type 0} → Content L → Type 0
Counted Open = Unit {0}
Counted (Leaf v) = Unit {0}
Counted (Node symbol arguments count) = count ≤ length arguments

-- so for all cells
abbrev pub AllCounted : {L : Type 0} → List (Cell L) → Type 0
AllCounted cells = AllByRecursion (λ c. Counted c.content) cells

-- cells in solved form, of which no node counts more arguments than it has places
pub record WellFormed {L : Type 0} (cells : List (Cell L)) : Type 0 where
  pub solved : Solved (cells_of cells)
  pub counted : AllCounted cells

-- what a cell that is joined to none is
abbrev pub kind_written : {L : Type 0} → Content L → CellKind
kind_written Open = K.Open
kind_written (Leaf v) = K.Leaf
kind_written (Node symbol arguments count) = K.Node

-- what a cell is that may be joined
abbrev pub kind_joined : {L : Type 0} → Option ℕ → Content L → CellKind
kind_joined None c = kind_written c
kind_joined (Some j) c = K.Joined

-- what a cell is
abbrev pub kind_of : {L : Type 0} → Cell L → CellKind
kind_of c = kind_joined c.joined c.content

-- what was written, as a sitting has it
abbrev pub content_lying : {L : Type 0} → C.Content L → T.Content L
content_lying variable = T.blank
content_lying (leaf v) = T.leaf v
content_lying (node f xs) = T.node f xs

-- a cell, as a sitting has it
abbrev pub lying : {L : Type 0} → C.Cell L → T.Cell L
lying c = record { content = content_lying c.content; joined = c.joined }
