-- Rows and cells that are kept: what one entry more leaves and adds.
use Rattle.std.proofs.Common.{◌≡◌, ℕ, ◌+◌, ◌≤◌, List, [], ◌∷◌, ◌++◌, map, length, take, drop, Option, sym, refl, ap, ◌∙◌, subst, append-nil, append_assoc, arith}
use Rattle.std.specs.List.{AllByRecursion}
use Rattle.std.proofs.ByRecursion.{All-push, All-weaker}
use Rattle.std.proofs.lemmas.List.{drop-append-le, drop_at, length-append, length-drop, map_push, take_all, take-append-le}
use Rattle.leaf.specs.Bytes.{Bytes}
use Rattle.theory.specs.Entries.{BookRules, Entry, Part}
use Rattle.book.specs.declared.entry.EntryCell.{EntryCell}
use Rattle.book.specs.declared.table.Row.{Row}
use Rattle.book.specs.Answers.{kind_of, listed, part_of}
use Rattle.book.specs.Tables.{entry_over, row_entries, row_entry}
use Rattle.form.specs.Meanings.{Meaning, entry, meaning, on_found}
use Rattle.form.proofs.Rules.{meaning_rules}
use Rattle.wire.specs.declared.good_entry.GoodEntry.{GoodEntry}
use Rattle.wire.specs.declared.store.Store.{Store}
use Rattle.wire.specs.Reads.{Inside, entry_with, kept_entries}

-- one element more after some
pub one_more : {X : Type 0} (all before xs : List X) (y x : X) → all ≡ (before ++ xs) ++ y ∷ [] → y ≡ x → all ≡ before ++ (xs ++ x ∷ [])
one_more all before xs y x e same = e ∙ append_assoc before xs (y ∷ []) ∙ ap (λ z. before ++ (xs ++ z ∷ [])) same

module _ {V : Type 0} where
  -- a row that points into the cells means the same after more of them
  row_kept : (cells more : List (EntryCell V)) (row : Row) → row.first + row.cells ≤ length cells →
      row_entry (cells ++ more) row ≡ row_entry cells row
  row_kept cells more row h =
      let d : drop row.first (cells ++ more) ≡ drop row.first cells ++ more = drop-append-le row.first cells more (omega arith) in
      let n : row.cells ≤ length (drop row.first cells) = omega (arith, length-drop row.first cells) in
      ap (λ xs. entry_over xs row) (ap (take row.cells) d ∙ take-append-le row.cells (drop row.first cells) more n)

  rows_kept : (cells more : List (EntryCell V)) (rows : List Row) → AllByRecursion (λ row. row.first + row.cells ≤ length cells) rows →
      row_entries (cells ++ more) rows ≡ row_entries cells rows
  rows_kept cells more [] h = refl
  rows_kept cells more (row ∷ rows) h =
      ap (λ e. e ∷ row_entries (cells ++ more) rows) (row_kept cells more row h.0)
      ∙ ap (λ es. row_entry cells row ∷ es) (rows_kept cells more rows h.1)

  -- a row of the cells that were just added
  row_new : (cells cs : List (EntryCell V)) (row : Row) (e : GoodEntry) (ps : List (Part V)) → row.first ≡ length cells →
      row.cells ≡ length cs → map part_of cs ≡ ps → row.kind ≡ e.kind → row.head ≡ e.goals.head → row.body ≡ e.goals.body →
      row_entry (cells ++ cs) row ≡ entry_with ps e
  row_new cells cs row e ps f n parts kind head body =
      let own : take row.cells (drop row.first (cells ++ cs)) ≡ cs =
      ap (take row.cells) (drop_at cells cs row.first (sym f)) ∙ take_all row.cells cs (omega arith) in
      ap (λ xs. entry_over xs row) own
      ∙ ap (λ k. record { kind = kind_of k; parts = map part_of cs; head = row.head; body = listed row.body }) kind
      ∙ ap (λ qs. record { kind = kind_of e.kind; parts = qs; head = row.head; body = listed row.body }) parts
      ∙ ap (λ h. record { kind = kind_of e.kind; parts = ps; head = h; body = listed row.body }) head
      ∙ ap (λ b. record { kind = kind_of e.kind; parts = ps; head = e.goals.head; body = listed b }) body

  -- one entry more
  pub added : (s t : Store V) (cs : List (EntryCell V)) (row : Row) (e : GoodEntry) (ps : List (Part V)) →
      t.cells.items ≡ s.cells.items ++ cs → t.rows.items ≡ s.rows.items ++ row ∷ [] → row.first ≡ length s.cells.items →
      row.cells ≡ length cs → map part_of cs ≡ ps → row.kind ≡ e.kind → row.head ≡ e.goals.head → row.body ≡ e.goals.body → Inside s →
      Inside t × (kept_entries t ≡ kept_entries s ++ entry_with ps e ∷ [])
  added s t cs row e ps ec er f n parts kind head body inside =
      let cells = s.cells.items in
      let rows = s.rows.items in
      let long : length t.cells.items ≡ length cells + length cs = ap length ec ∙ length-append cells cs in
      let P : Row → Type 0 = λ r. r.first + r.cells ≤ length t.cells.items in
      let old : AllByRecursion P rows = All-weaker (λ r. r.first + r.cells ≤ length cells) P (λ r h. omega arith) rows inside in
      let fits : row.first + row.cells ≤ length t.cells.items = omega arith in (
        subst (AllByRecursion P) (sym er) (All-push P rows row old fits),
        ap (λ xs. row_entries xs t.rows.items) ec ∙ ap (row_entries (cells ++ cs)) er
            ∙ map_push (row_entry (cells ++ cs)) rows row
            ∙ ap (λ es. es ++ row_entry (cells ++ cs) row ∷ []) (rows_kept cells cs rows inside)
            ∙ ap (λ x. row_entries cells rows ++ x ∷ []) (row_new cells cs row e ps f n parts kind head body),
      )

  -- the book means what it meant, once its next entry is among those kept
  module _ (m l l' : Meaning V) (es es' : List (Entry V)) (e : Entry V) (row : l ≡ on_found (entry e) l') (kept : es' ≡ es ++ e ∷ []) where
    pub keeps_entries : m.entries ≡ es ++ l.entries → m.entries ≡ es' ++ l'.entries
    keeps_entries h =
        h ∙ ap (λ x. es ++ x.entries) row ∙ sym (append_assoc es (e ∷ []) l'.entries) ∙ ap (λ xs. xs ++ l'.entries) (sym kept)

    pub keeps_fault : m.first_fault ≡ l.first_fault → m.first_fault ≡ l'.first_fault
    keeps_fault h = h ∙ ap (λ x. x.first_fault) row

-- entries that are all of a book's keep its rules, in whatever way the book's last entries were found to be none
pub all_kept : {V : Type 0} (wide : ℕ) (reading : List ℕ → Option V) (bs : List ℕ) (es ls : List (Entry V)) → Bytes bs →
    (meaning wide reading bs).entries ≡ es ++ ls → ls ≡ [] → BookRules es
all_kept wide reading bs es ls b e none =
    subst BookRules (e ∙ ap (λ xs. es ++ xs) none ∙ append-nil es) (meaning_rules wide reading bs b)
