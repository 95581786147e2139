-- Good rows mean entries that keep the rules.
use Rattle.std.proofs.Common.{◌≡◌, ℕ, ◌<◌, ◌≤◌, ◌⊎◌, ⊎_elim, inl, inr, min, List, [], ◌∷◌, length, get_or, take, Some, None, Option, MatchOption, sym, ◌∙◌, subst, arith}
use Rattle.std.specs.List.{slice_get, AllByRecursion, AllWithin, HoldsAt}
use Rattle.std.specs.Option.{unwrap_or}
use Rattle.std.proofs.ByRecursion.{All-map, All-take, All-weaker, all_from_every}
use Rattle.std.proofs.lemmas.Bool.{cases_lt}
use Rattle.std.proofs.lemmas.List.{length-map, length-take, length-take-le, get_or-take, take-take}
use Rattle.std.proofs.lemmas.Option.{slice_get-get_or}
use Rattle.theory.specs.Entries.{BookRules, EntryRules}
use Rattle.book.specs.declared.entry.EntryCell.{EntryCell}
use Rattle.book.specs.declared.table.Row.{Row}
use Rattle.book.specs.Tables.{Faulty, GoodRows, RowRules, row_entry, row_entries}

module _ {V : Type 0} (cells : List (EntryCell V)) (rows : List Row) where
  -- so do the first of them
  pub good_rules : (n m : ℕ) → n ≤ m → GoodRows cells rows m → BookRules (row_entries cells (take n rows))
  good_rules n m h good =
      let first : AllByRecursion (RowRules cells) (take n rows) =
      subst (AllByRecursion (RowRules cells)) (take-take n m rows h) (All-take (RowRules cells) n (take m rows) good.good) in
      record {
        few = simp (length-map, length-take) (omega (arith, good.few));
        entries =
            All-map EntryRules (row_entry cells) (take n rows)
            (All-weaker (RowRules cells) (λ row. EntryRules (row_entry cells row)) (λ row k. k.rules) (take n rows) first);
      }

-- the first faulty of the rows that count, if there is one, says how many rows are good
module _ {V : Type 0} (cells : List (EntryCell V)) (rows : List Row) (m : ℕ) (e : m ≡ min (length rows) 1024) where
  counted : length (take m rows) ≡ m
  counted = length-take-le m rows (omega (arith, e))

  abbrev pub First : Option ℕ → Type 0
  First o =
      MatchOption o (AllWithin (RowRules cells) (take m rows) 0 (length (take m rows)))
      (λ i. (i < length (take m rows)) × HoldsAt (λ row. RowRules cells row → ⊥) (take m rows) i × AllWithin (RowRules cells) (take m rows) 0 i)

  ended : (m ≡ length rows) ⊎ (m ≡ 1024) ⊎ Faulty cells (slice_get rows m)
  ended = ⊎_elim (λ h. inl (omega (arith, e))) (λ h. inr (inl (omega (arith, e)))) (cases_lt (length rows) 1024)

  pub good_until : (o : Option ℕ) → First o → GoodRows cells rows (unwrap_or o (length (take m rows)))
  good_until None all =
      subst (GoodRows cells rows) (sym counted)
      (record {
        within = omega (arith, e);
        few = omega (arith, e);
        good = all_from_every (RowRules cells) (take m rows) all;
        last = ended;
      })
  good_until (Some i) found =
      let low : i < m = omega (arith, found.0, counted) in
      let size : length (take i rows) ≡ i = length-take-le i rows (omega (arith, e)) in
      record {
        within = omega (arith, e);
        few = omega (arith, e);
        good =
            all_from_every (RowRules cells) (take i rows) λ k d a b.
            let c : k < i = omega (arith, b, size) in
            subst (RowRules cells) (get_or-take m rows k d (omega arith) ∙ sym (get_or-take i rows k d c)) (found.2 k d a c);
        last =
            inr (inr (at_fault rows i (omega (arith, e)) λ d.
            subst (λ row. RowRules cells row → ⊥) (get_or-take m rows i d low) (found.1 d)));
      }
    where
      at_fault : (xs : List Row) (i : ℕ) → i < length xs → ((d : Row) → RowRules cells (get_or xs i d) → ⊥) → Faulty cells (slice_get xs i)
      at_fault [] i h f = absurd (omega arith)
      at_fault (x ∷ xs) i h f = subst (Faulty cells) (sym (slice_get-get_or (x ∷ xs) i x h)) (f x)
