-- What the values of a book's answers mean, and the answer to each question by the book's entries. Assumes nothing.
use Rattle.std.specs.Prelude.{ℕ, List, ◌++◌, length, take, replicate, Some, None, Option, codes}
use Rattle.std.specs.List.{slice_get}
use Rattle.std.specs.Option.{option_map}
use Rattle.theory.specs.Entries.{Entry, Kind, clause, cofact, Part, variable, leaf, node}
use Rattle.book.specs.declared.entry.EntryKind.{EntryKind}
use Rattle.book.specs.declared.entry.EntryKind.TheVariants.{Clause, CoFact}
use Rattle.book.specs.declared.entry.CellNumbers.{CellNumbers}
use Rattle.book.specs.declared.entry.EntryCell.{EntryCell}
use Rattle.book.specs.declared.entry.EntryCell.TheVariants.{Variable, Leaf, Node}
use Rattle.book.specs.declared.entry.Outline.{Outline}

-- the kind that a value stands for
abbrev pub kind_of : EntryKind → Kind
kind_of Clause = clause
kind_of CoFact = cofact

-- the word for a kind
abbrev pub kind_word : Kind → List ℕ
kind_word clause = codes "clause"
kind_word cofact = codes "cofact"

-- the value that stands for a kind
abbrev pub of_kind : Kind → EntryKind
of_kind clause = Clause
of_kind cofact = CoFact

-- the numbers listed, as many as it says; where it says more than it holds the others are 0, so that the length tells
abbrev pub listed : {n : ℕ} → CellNumbers n → List ℕ
listed l = take l.len (l.cells ++ replicate l.len 0)

module _ {V : Type 0} where
  -- the entry's cell that a value stands for
  abbrev pub part_of : EntryCell V → Part V
  part_of Variable = variable
  part_of (Leaf v) = leaf v
  part_of (Node n) = node n.symbol (listed n.args)

  -- an entry without its cells and body goals
  abbrev pub outline_of : Entry V → Outline
  outline_of e =
      record { kind = of_kind e.kind; cells = length e.parts; head = e.head; goals = length e.body }

  -- the outline of the entry with that number
  abbrev pub outline_at : List (Entry V) → ℕ → Option Outline
  outline_at es i = option_map outline_of (slice_get es i)

  -- a cell of an entry, if there is such an entry
  abbrev pub cell_in : Option (Entry V) → ℕ → Option (Part V)
  cell_in None j = None
  cell_in (Some e) j = slice_get e.parts j

  -- a body goal of an entry, if there is such an entry
  abbrev pub goal_in : Option (Entry V) → ℕ → Option ℕ
  goal_in None k = None
  goal_in (Some e) k = slice_get e.body k

  -- the cell with that number of the entry with that number
  abbrev pub cell_at : List (Entry V) → ℕ → ℕ → Option (Part V)
  cell_at es i j = cell_in (slice_get es i) j

  -- the body goal with that number of the entry with that number
  abbrev pub goal_at : List (Entry V) → ℕ → ℕ → Option ℕ
  goal_at es i k = goal_in (slice_get es i) k
