-- One row of a table, one cell of a row, and one of the numbers listed.
use Rattle.std.proofs.Common.{◌≡◌, ℕ, zero, suc, ◌+◌, ◌-◌, ◌<◌, ◌≤◌, min, List, [], ◌∷◌, ◌++◌, map, length, get_or, take, drop, replicate, Some, None, sym, refl, ap, ◌∙◌, arith}
use Rattle.std.specs.List.{slice_get}
use Rattle.std.specs.Option.{option_map}
use Rattle.std.proofs.lemmas.List.{length-map, length-take, length-drop, length-append, length-replicate, get_or_append_left, get_or-append_right, get_or-replicate}
use Rattle.std.proofs.lemmas.Option.{slice_get_past, slice_get_read, slice_get-get_or}
use Rattle.book.specs.declared.entry.EntryCell.{EntryCell}
use Rattle.book.specs.declared.table.Row.{Row}
use Rattle.book.specs.declared.entry.EntryKind.{EntryKind}
use Rattle.book.specs.declared.entry.EntryKind.TheVariants.{Clause, CoFact}
use Rattle.book.specs.Answers.{kind_of, listed, of_kind, outline_at, outline_of, part_of}
use Rattle.book.specs.Tables.{row_entry, row_entries}
use Rattle.book.proofs.Listed.{length_listed}
use Rattle.book.proofs.Parts.{nth_map}

pub nth_take : {X : Type 0} (n : ℕ) (xs : List X) (j : ℕ) → j < n → slice_get (take n xs) j ≡ slice_get xs j
nth_take zero xs j h = absurd (omega arith)
nth_take (suc n) [] j h = refl
nth_take (suc n) (x ∷ xs) zero h = refl
nth_take (suc n) (x ∷ xs) (suc j) h = nth_take n xs j (omega arith)

nth_drop : {X : Type 0} (f : ℕ) (xs : List X) (j : ℕ) → slice_get (drop f xs) j ≡ slice_get xs (f + j)
nth_drop zero xs j = ap (slice_get xs) (omega arith)
nth_drop (suc f) [] j = refl
nth_drop (suc f) (x ∷ xs) j =
    let e : suc f + j ≡ suc (f + j) = omega arith in
    nth_drop f xs j ∙ ap (slice_get (x ∷ xs)) (sym e)

kind_back : (k : EntryKind) → of_kind (kind_of k) ≡ k
kind_back Clause = refl
kind_back CoFact = refl

module _ {V : Type 0} (cells : List (EntryCell V)) where
  -- the entry of a row that is there
  pub row_there : (rows : List Row) (i : ℕ) (row : Row) → i < length rows → row ≡ get_or rows i row →
      slice_get (row_entries cells rows) i ≡ Some (row_entry cells row)
  row_there rows i row h e = nth_map (row_entry cells) rows i ∙ ap (option_map (row_entry cells)) (slice_get_read rows (length rows) i row refl h e)

  pub row_missing : (rows : List Row) (i : ℕ) → length rows ≤ i → slice_get (row_entries cells rows) i ≡ None
  row_missing rows i h = nth_map (row_entry cells) rows i ∙ ap (option_map (row_entry cells)) (slice_get_past rows i h)

  module _ (first n : ℕ) where
    -- how many cells a row has
    pub own_count : length (map part_of (take n (drop first cells))) ≡ min (length cells - first) n
    own_count = length-map (take n (drop first cells)) part_of ∙ length-take n (drop first cells) ∙ (rw (length-drop first cells) (omega arith))

    -- a cell of a row
    pub own_cell : (j : ℕ) (x : EntryCell V) → j < min (length cells - first) n → x ≡ get_or cells (first + j) x →
        slice_get (map part_of (take n (drop first cells))) j ≡ Some (part_of x)
    own_cell j x h e =
        let there : slice_get cells (first + j) ≡ Some x = slice_get_read cells (length cells) (first + j) x refl (omega arith) e in
        nth_map part_of (take n (drop first cells)) j
        ∙ ap (option_map part_of) (nth_take n (drop first cells) j (omega arith) ∙ nth_drop first cells j ∙ there)

    pub own_past : (j : ℕ) → min (length cells - first) n ≤ j → slice_get (map part_of (take n (drop first cells))) j ≡ None
    own_past j h = slice_get_past (map part_of (take n (drop first cells))) j (omega (arith, own_count))

  -- the outline of a row
  pub outline_there : (rows : List Row) (i : ℕ) (row : Row) (n : ℕ) → i < length rows → row ≡ get_or rows i row →
      n ≡ min (length cells - row.first) row.cells →
      Some (record { kind = row.kind; cells = n; head = row.head; goals = row.body.len }) ≡ outline_at (row_entries cells rows) i
  outline_there rows i row n h e m =
      let own : length (map part_of (take row.cells (drop row.first cells))) ≡ n = own_count row.first row.cells ∙ sym m in
      let goals : length (listed row.body) ≡ row.body.len = length_listed row.body.len row.body.cells in
      let kind : of_kind (kind_of row.kind) ≡ row.kind = kind_back row.kind in
      let made : outline_of (row_entry cells row) ≡ record { kind = row.kind; cells = n; head = row.head; goals = row.body.len } = cc in
      sym (ap (option_map outline_of) (row_there rows i row h e) ∙ ap Some made)

-- the numbers listed, by place
module _ (n : ℕ) (xs : List ℕ) (i : ℕ) where
  pub listed_past : n ≤ i → slice_get (take n (xs ++ replicate n 0)) i ≡ None
  listed_past h = slice_get_past (take n (xs ++ replicate n 0)) i (omega (arith, length_listed n xs))

  pub listed_zero : i < n → length xs ≤ i → slice_get (take n (xs ++ replicate n 0)) i ≡ Some 0
  listed_zero h k =
      nth_take n (xs ++ replicate n 0) i h ∙ slice_get-get_or (xs ++ replicate n 0) i 0 (simp (length-append, length-replicate) (omega arith))
      ∙ ap Some (get_or-append_right xs (replicate n 0) (length xs) i 0 refl k ∙ get_or-replicate n (i - length xs) 0 0 (omega arith))

  pub listed_there : i < n → i < length xs → slice_get (take n (xs ++ replicate n 0)) i ≡ Some (get_or xs i 0)
  listed_there h k =
      nth_take n (xs ++ replicate n 0) i h ∙ slice_get-get_or (xs ++ replicate n 0) i 0 (simp (length-append, length-replicate) (omega arith))
      ∙ ap Some (get_or_append_left xs (replicate n 0) 0 i k)
