-- One entry read off the front of a book's bytes.
use Rattle.std.proofs.Common.{◌≡◌, ℕ, suc, ◌+◌, ◌-◌, ◌≤◌, List, length, Some, Ok, Err, Option, Result, sym, ap, ◌∙◌, subst, arith}
use Rattle.form.specs.declared.fault.Fault.{Fault}
use Rattle.form.specs.Fields.{Field, after_field, first_field}
use Rattle.form.specs.Meanings.{Found, entry, entry_kind, fault, found, meaning, next_place, on_found, row_of}
use Rattle.form.proofs.Steps.{meaning_short, row_whole}
use Rattle.wire.specs.declared.cursor.Entries.{Entries}
use Rattle.wire.specs.declared.good_entry.GoodEntry.{GoodEntry}
use Rattle.wire.specs.declared.field.Split.{Split}
use Rattle.wire.specs.Reads.{FoundAs, RowStep, SplitOf, entry_with, row_left}
use Rattle.wire.proofs.FirstFields.{lengths}

module _ (bs : List ℕ) (s : Split) (of : SplitOf bs s) where
  same_field : ◌≡◌ {A = Field} (first_field bs) (record { tag = s.tag; contents = s.contents.now })
  same_field =
      ap (λ t. record { tag = t; contents = (first_field bs).contents }) (sym of.tag)
      ∙ ap (λ (xs : List ℕ). record { tag = s.tag; contents = xs }) (sym of.contents)

  -- the field fits in the book
  pub fits_in : (place : ℕ) → place + length bs ≤ 65535 → place + (3 + length s.contents.now) ≤ 65535
  fits_in place h = omega (arith, lengths bs s of, ap length of.contents, h)

  module _ {V : Type 0} (wide : ℕ) (reading : List ℕ → Option V) (place n : ℕ) where
    after_found : (x : Found V) →
        found wide reading place n (record { tag = s.tag; contents = s.contents.now }) (entry_kind s.tag) ≡ x →
        row_of wide reading place n bs
        ≡ on_found x (row_of wide reading (place + (length bs - length s.rest.now)) (n + 1) s.rest.now)
    after_found x e =
        let next : next_place place (first_field bs) ≡ place + (length bs - length s.rest.now) = omega (arith, lengths bs s of) in
        let more : suc n ≡ n + 1 = omega arith in
        row_whole wide reading place n bs of.whole_field
        ∙ ap (λ f. on_found (found wide reading place n f (entry_kind f.tag)) (row_of wide reading (next_place place (first_field bs)) (suc n) (after_field bs))) same_field
        ∙ ap (λ y. on_found y (row_of wide reading (next_place place (first_field bs)) (suc n) (after_field bs))) e
        ∙ ap (λ p. on_found x (row_of wide reading p (suc n) (after_field bs))) next
        ∙ ap (λ k. on_found x (row_of wide reading (place + (length bs - length s.rest.now)) k (after_field bs))) more
        ∙ ap (λ xs. on_found x (row_of wide reading (place + (length bs - length s.rest.now)) (n + 1) xs)) (sym of.rest)

-- what was found in the field is what the row comes to
pub row_step : {V : Type 0} (wide : ℕ) (reading : List ℕ → Option V) (before after : Entries) (s : Split) (of : SplitOf before.rest.now s) (e : GoodEntry) →
    after.rest.now ≡ s.rest.now →
    after.spot.place ≡ before.spot.place + (length before.rest.now - length s.rest.now) → after.spot.entry ≡ before.spot.entry + 1 →
    FoundAs wide reading before.spot s (Ok e) → RowStep wide reading before after (Ok (Some e))
row_step wide reading before after s of e rest place count h =
    let bs = before.rest.now in
    let x = entry (entry_with h.2.0 e) in (
      h.2.0,
      h.2.1,
      after_found bs s of wide reading before.spot.place before.spot.entry x h.2.2
          ∙ ap (λ p. on_found x (row_of wide reading p (before.spot.entry + 1) s.rest.now)) (sym place)
          ∙ ap (λ n. on_found x (row_of wide reading after.spot.place n s.rest.now)) (sym count)
          ∙ ap (λ (xs : List ℕ). on_found x (row_of wide reading after.spot.place after.spot.entry xs)) (sym rest),
    )

-- a fault in the field
pub row_fails : {V : Type 0} (wide : ℕ) (reading : List ℕ → Option V) (before after : Entries) (s : Split) (of : SplitOf before.rest.now s) (f : Fault) →
    FoundAs wide reading before.spot s (Err f) → (r : Result (Option GoodEntry) Fault) → ((y : Fault) × (r ≡ Err y) × (y ≡ f)) →
    RowStep wide reading before after r
row_fails wide reading before after s of f h r p =
    subst (RowStep wide reading before after) (sym (p.1 ∙ ap Err p.2))
    (after_found before.rest.now s of wide reading before.spot.place before.spot.entry (fault f) h)

-- the entries that are to be read at first are those that the bytes mean
pub begins : {V : Type 0} (wide : ℕ) (reading : List ℕ → Option V) (bs : List ℕ) (e : Entries) →
    (length bs ≤ 65535) × (e.rest.now ≡ bs) × (e.spot ≡ record { place = 0; entry = 0 }) → meaning wide reading bs ≡ row_left wide reading e
begins wide reading bs e h =
    meaning_short wide reading bs h.0 ∙ ap (λ s. row_of wide reading s.place s.entry bs) (sym h.2)
    ∙ ap (row_of wide reading e.spot.place e.spot.entry) (sym h.1)
