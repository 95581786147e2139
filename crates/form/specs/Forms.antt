-- The form of a book: the bytes that its entries are written as. Assumes nothing.
use Rattle.std.specs.Prelude.{ℕ, List, [], ◌∷◌, ◌++◌}
use Rattle.std.specs.List.{flat_map}
use Rattle.leaf.specs.Bytes.{two_bytes}
use Rattle.theory.specs.Entries.{Entry, Kind, clause, cofact, Part, variable, leaf, node}
use Rattle.form.specs.Fields.{field_form}

-- the tag of an entry: 1 for a clause, 2 for a co-fact
abbrev pub entry_tag : Kind → ℕ
entry_tag clause = 1
entry_tag cofact = 2

module _ {V : Type 0} (written : V → List ℕ) where
  -- a cell: 16 a variable, 17 a leaf with its bytes, 18 a node with its symbol in two bytes and a byte per argument
  abbrev pub part_form : Part V → List ℕ
  part_form variable = field_form 16 []
  part_form (leaf v) = field_form 17 (written v)
  part_form (node f args) = field_form 18 (two_bytes f ++ args)

  -- the goals: 19, with a byte for the head and one per body goal
  abbrev pub goals_form : ℕ → List ℕ → List ℕ
  goals_form head body = field_form 19 (head ∷ body)

  -- what an entry holds: its cells, and last its goals
  abbrev pub contents_form : Entry V → List ℕ
  contents_form e = flat_map part_form e.parts ++ goals_form e.head e.body

  -- an entry is a field of its own
  abbrev pub entry_form : Entry V → List ℕ
  entry_form e = field_form (entry_tag e.kind) (contents_form e)

  -- a book is a row of entries
  abbrev pub book_form : List (Entry V) → List ℕ
  book_form es = flat_map entry_form es
