-- What the reader's own values stand for. Assumes nothing.
use Rattle.std.specs.Prelude.{◌≡◌, ℕ, ◌+◌, ◌*◌, ◌<◌, ◌≤◌, Bool, true, List, [], ◌∷◌, ◌++◌, map, length, drop, Some, None, Ok, Err, Option, Result, slice_index}
use Rattle.theory.specs.Entries.{BodyRule, Entry, Kind, Part, clause, cofact}
use Rattle.form.specs.Fields.{whole, first_field, after_field, cut}
use Rattle.form.specs.declared.fault.Cause.TheVariants.{WrongGoals}
use Rattle.form.specs.declared.fault.Fault.{Fault}
use Rattle.form.specs.Meanings.{Ending, Meaning, entry, entry_kind, fault, found, row_fault, on_found, row_of, Seen, bad, complete, unended, ending_of, goals_end, cell, goals, inner_fault, wrong, shape, variable_field, leaf_field, node_field, goals_field}
use Rattle.std.specs.List.{AllByRecursion}
use Rattle.book.specs.declared.entry.EntryCell.{EntryCell}
use Rattle.book.specs.Tables.{row_entries}
use Rattle.book.specs.Answers.{kind_of, listed, part_of}
use Rattle.wire.specs.declared.cursor.Entries.{Entries}
use Rattle.wire.specs.declared.cursor.Fields.{Fields}
use Rattle.wire.specs.declared.good_entry.GoodEntry.{GoodEntry}
use Rattle.wire.specs.declared.item.Goals.{Goals as GoalsRead}
use Rattle.wire.specs.declared.spot.Spot.{Spot}
use Rattle.wire.specs.declared.store.Store.{Store}
use Rattle.wire.specs.Marks.{marks_of, node_part}
use Rattle.wire.specs.declared.item.Item.{Item}
use Rattle.wire.specs.declared.item.Item.TheVariants.{Cell, Goals}
use Rattle.wire.specs.declared.field.Split.{Split}
use Rattle.wire.specs.declared.field.Field.{Field}
use Rattle.wire.specs.declared.field.Field.TheVariants as fields

-- the field that bytes begin with, and what follows it
pub record SplitOf (bs : List ℕ) (s : Split) : Type 0 where
  pub whole_field : whole bs ≡ true
  pub tag : s.tag ≡ (first_field bs).tag
  pub contents : s.contents.now ≡ (first_field bs).contents
  pub rest : s.rest.now ≡ after_field bs

-- the field at that spot, with that tag and those contents, whose length its tag allows
abbrev pub IsField : ℕ → Spot → ℕ → List ℕ → Field → Type 0
IsField wide spot tag bs (fields.Variable at) = (at ≡ spot) × (shape tag ≡ Some variable_field) × (length bs ≡ 0)
IsField wide spot tag bs (fields.Leaf at bytes) =
    (at ≡ spot) × (shape tag ≡ Some leaf_field) × (length bs ≡ wide) × (bytes.now ≡ bs)
IsField wide spot tag bs (fields.Node at symbol args) =
    (at ≡ spot) × (shape tag ≡ Some node_field) × (2 ≤ length bs) × (length bs ≤ 6)
    × (symbol ≡ slice_index bs 0 * 256 + slice_index bs 1) × (args.now ≡ drop 2 bs)
IsField wide spot tag bs (fields.Goals at head body) =
    (at ≡ spot) × (shape tag ≡ Some goals_field) × (1 ≤ length bs) × (length bs ≤ 9)
    × (head ≡ slice_index bs 0) × (body.now ≡ drop 1 bs)

-- what a field was read as, after its tests: a cell, the goals, or the fault that the first test it fails names
abbrev pub ItemMeans : {V : Type 0} → Spot → Seen V → Result (Item V) Fault → Type 0
ItemMeans spot s (Ok (Cell c)) = s ≡ cell (part_of c)
ItemMeans spot s (Ok (Goals g)) = s ≡ goals g.head (listed g.body)
ItemMeans spot s (Err f) = (s ≡ wrong f.cause) × (f ≡ inner_fault f.cause spot.place spot.entry)

-- the marks that a field adds: whether its cell is a node
abbrev pub new_marks : {V : Type 0} → Item V → List Bool
new_marks (Cell c) = node_part (part_of c) ∷ []
new_marks (Goals g) = []

-- how the contents of an entry with the cells ps ended: with goals or without
abbrev pub ending_read : {V : Type 0} → List (Part V) → Option GoalsRead → Ending V
ending_read ps None = unended
ending_read ps (Some g) = complete ps g.head (listed g.body)

-- an entry of that kind may not end so: without goals, or as a co-fact with a body
abbrev pub Unallowed : Kind → Option GoalsRead → Type 0
Unallowed k None = Unit {0}
Unallowed clause (Some g) = ⊥
Unallowed cofact (Some g) = 0 < length (listed g.body)

-- goals were allowed as an entry's end, whatever its cells, or the fault at it was named
abbrev pub ClosedAs : Kind → Spot → Option GoalsRead → Result GoalsRead Fault → Type 0
ClosedAs k spot o (Ok g) = (o ≡ Some g) × BodyRule k (listed g.body)
ClosedAs k spot o (Err f) = (f ≡ row_fault WrongGoals spot.place spot.entry) × Unallowed k o

-- the good entry, with the cells ps
abbrev pub entry_with : {V : Type 0} → List (Part V) → GoodEntry → Entry V
entry_with ps e =
    record { kind = kind_of e.kind; parts = ps; head = e.goals.head; body = listed e.goals.body }

-- every row points into the cells
abbrev pub Inside : {V : Type 0} → Store V → Type 0
Inside s = AllByRecursion (λ row. row.first + row.cells ≤ length s.cells.items) s.rows.items

-- the entries that are kept
abbrev pub kept_entries : {V : Type 0} → Store V → List (Entry V)
kept_entries s = row_entries s.cells.items s.rows.items

module _ {V : Type 0} (wide : ℕ) (reading : List ℕ → Option V) where
  -- how the contents of an entry end that are still to be read after the cells ps
  abbrev pub ending_left : List (Part V) → Fields → Ending V
  ending_left ps s = ending_of wide reading ps s.spot.place s.rest.now

  -- one field more was read: the contents had ended, go on with one cell more, or end with the goals and what follows them
  abbrev pub FieldStep : List (Part V) → Fields → Fields → Result (Option (Item V)) Fault → Type 0
  FieldStep ps s t (Ok None) = ending_left ps s ≡ unended
  FieldStep ps s t (Ok (Some (Cell c))) =
      (ending_left ps s ≡ ending_left (ps ++ part_of c ∷ []) t) × (marks_of (ps ++ part_of c ∷ []) ≡ t.nodes.items)
  FieldStep ps s t (Ok (Some (Goals g))) =
      ending_left ps s ≡ goals_end ps g.head (listed g.body) t.spot.place (cut t.rest.now).fields (cut t.rest.now).left
  FieldStep ps s t (Err f) =
      (ending_left ps s ≡ bad f.cause f.place) × (f ≡ inner_fault f.cause f.place s.spot.entry)

  -- how the contents of an entry were found to end, with some cells: with goals, without, or with a fault
  abbrev pub ContentsMean : Spot → List ℕ → Result (Option GoalsRead) Fault → Type 0
  ContentsMean spot bs (Ok o) = (ps : List (Part V)) × (ending_of wide reading [] spot.place bs ≡ ending_read ps o)
  ContentsMean spot bs (Err f) =
      (ending_of wide reading [] spot.place bs ≡ bad f.cause f.place) × (f ≡ inner_fault f.cause f.place spot.entry)

  -- some cells are those that a good entry's contents come to
  abbrev pub HasCells : GoodEntry → List (Part V) → Type 0
  HasCells e ps = ending_of wide reading [] e.spot.place e.contents.now ≡ complete ps e.goals.head (listed e.goals.body)

  -- a field of the row was found good, with some cells that its contents come to, or as the fault in it
  abbrev pub FoundAs : Spot → Split → Result GoodEntry Fault → Type 0
  FoundAs spot s (Ok e) =
      (e.spot.place ≡ spot.place + 3) × (e.contents.now ≡ s.contents.now)
      × ((ps : List (Part V)) × HasCells e ps
      × (found wide reading spot.place spot.entry (record { tag = s.tag; contents = s.contents.now }) (entry_kind s.tag) ≡ entry (entry_with ps e)))
  FoundAs spot s (Err f) =
      found wide reading spot.place spot.entry (record { tag = s.tag; contents = s.contents.now }) (entry_kind s.tag) ≡ fault f

  -- what the bytes mean that are still to be read
  abbrev pub row_left : Entries → Meaning V
  row_left s = row_of wide reading s.spot.place s.spot.entry s.rest.now

  -- one entry more was read: the row had ended, begins with an entry of some cells, or with a fault
  abbrev pub RowStep : Entries → Entries → Result (Option GoodEntry) Fault → Type 0
  RowStep s t (Ok None) = row_left s ≡ record { entries = []; first_fault = None }
  RowStep s t (Ok (Some e)) =
      (ps : List (Part V)) × HasCells e ps × (row_left s ≡ on_found (entry (entry_with ps e)) (row_left t))
  RowStep s t (Err f) = row_left s ≡ record { entries = []; first_fault = Some f }

  -- cells were added, and they are those of the complete entry that the contents come to, if they come to one
  abbrev pub Stores : ℕ → List ℕ → List (EntryCell V) → List (EntryCell V) → Type 0
  Stores place bs before after =
      (cs : List (EntryCell V)) × (after ≡ before ++ cs)
      × ((ps : List (Part V)) (head : ℕ) (body : List ℕ) → ending_of wide reading [] place bs ≡ complete ps head body → map part_of cs ≡ ps)

  -- a good entry with the cells ps was added to rows that point into the cells
  abbrev pub Adds : GoodEntry → List (Part V) → Store V → Store V → Type 0
  Adds e ps s t = HasCells e ps → Inside s → Inside t × (kept_entries t ≡ kept_entries s ++ entry_with ps e ∷ [])
