-- Tables: the entries that supplied rows and cells mean. Assumes nothing.
use Rattle.std.specs.Prelude.{◌≡◌, ℕ, ◌+◌, ◌≤◌, ◌⊎◌, List, map, length, take, drop, Some, None, Option}
use Rattle.std.specs.List.{slice_get, AllByRecursion}
use Rattle.theory.specs.Entries.{Entry, EntryRules}
use Rattle.book.specs.declared.entry.EntryCell.{EntryCell}
use Rattle.book.specs.declared.table.Row.{Row}
use Rattle.book.specs.declared.table.Table.{Table}
use Rattle.book.specs.Answers.{kind_of, listed, part_of}

-- the entry that a row means over its own cells
abbrev pub entry_over : {V : Type 0} → List (EntryCell V) → Row → Entry V
entry_over own row =
    record { kind = kind_of row.kind; parts = map part_of own; head = row.head; body = listed row.body }

module _ {V : Type 0} (cells : List (EntryCell V)) where
  -- the entry that a row means: its own cells are so many of the supplied ones, from its first on
  abbrev pub row_entry : Row → Entry V
  row_entry row = entry_over (take row.cells (drop row.first cells)) row

  -- the entries that rows mean
  abbrev pub row_entries : List Row → List (Entry V)
  row_entries rows = map row_entry rows

  -- a row is good when it does not point past the supplied cells and its entry keeps the entry rules
  pub record RowRules (row : Row) : Type 0 where
    pub inside : row.first + row.cells ≤ length cells
    pub rules : EntryRules (row_entry row)

  -- there is a row, and it is not good
  abbrev pub Faulty : Option Row → Type 0
  Faulty None = ⊥
  Faulty (Some row) = RowRules row → ⊥

  -- the first n rows are good, and they end with the table, at 1,024 rows or before a faulty one
  pub record GoodRows (rows : List Row) (n : ℕ) : Type 0 where
    pub within : n ≤ length rows
    pub few : n ≤ 1024
    pub good : AllByRecursion RowRules (take n rows)
    pub last : (n ≡ length rows) ⊎ (n ≡ 1024) ⊎ Faulty (slice_get rows n)

  -- a table means the entries before its first faulty row
  abbrev pub TableMeans : List Row → List (Entry V) → Type 0
  TableMeans rows entries = (n : ℕ) × GoodRows rows n × (entries ≡ row_entries (take n rows))

-- the entries of all rows of a table, good or not
abbrev pub table_entries : {V : Type 0} → Table V → List (Entry V)
table_entries t = row_entries t.cells.now t.rows.now
