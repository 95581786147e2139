-- What bytes mean, one field at a time.
use Rattle.std.proofs.Common.{◌≡◌, ℕ, suc, ◌<◌, ◌≤◌, Bool, true, false, cond, List, [], ◌∷◌, ◌++◌, length, Some, None, Option, refl, ap, arith}
use Rattle.std.proofs.lemmas.Bool.{le-ltb, lt-ltb}
use Rattle.theory.specs.Entries.{Part}
use Rattle.form.specs.declared.fault.Cause.TheVariants.{PastEnd, WrongGoals, TooMuch}
use Rattle.form.specs.Fields.{whole, first_field, after_field, cut}
use Rattle.form.specs.Meanings.{bad, unended, complete, goals_end, on_seen, on_found, next_place, row_fault, entry_kind, shape, seen, ending, ending_of, found, row_means, row_of, meaning}
use Rattle.form.proofs.Cuts.{cut_whole, cut_part}

pub cut_nil : cut [] ≡ record { fields = []; left = [] }
cut_nil = cut_part [] refl

module _ {V : Type 0} where
  -- nothing after goals completes the entry
  pub goals_last : (ps : List (Part V)) (head : ℕ) (body : List ℕ) (after : ℕ) →
      goals_end ps head body after (cut []).fields (cut []).left ≡ complete ps head body
  goals_last ps head body after = ap (λ r. goals_end ps head body after r.fields r.left) cut_nil

  -- anything after goals is a fault
  pub goals_more : (ps : List (Part V)) (head : ℕ) (body : List ℕ) (after : ℕ) (bs : List ℕ) → 0 < length bs →
      goals_end ps head body after (cut bs).fields (cut bs).left ≡ bad WrongGoals after
  goals_more ps head body after [] h = absurd (omega arith)
  goals_more ps head body after (b ∷ bs) h = go (whole (b ∷ bs)) refl
    where
      go : (w : Bool) → whole (b ∷ bs) ≡ w → goals_end ps head body after (cut (b ∷ bs)).fields (cut (b ∷ bs)).left ≡ bad WrongGoals after
      go true e = ap (λ r. goals_end ps head body after r.fields r.left) (cut_whole (b ∷ bs) e)
      go false e = ap (λ r. goals_end ps head body after r.fields r.left) (cut_part (b ∷ bs) e)

module _ {V : Type 0} (wide : ℕ) (reading : List ℕ → Option V) where
  -- the contents of an entry: at their end, at a part of a field, at a whole field
  pub ending_nil : (ps : List (Part V)) (place : ℕ) → ending_of wide reading ps place [] ≡ unended
  ending_nil ps place = ap (λ r. ending wide reading ps place r.fields r.left) cut_nil

  pub ending_part : (ps : List (Part V)) (place : ℕ) (bs : List ℕ) → 0 < length bs → whole bs ≡ false →
      ending_of wide reading ps place bs ≡ bad PastEnd place
  ending_part ps place [] h e = absurd (omega arith)
  ending_part ps place (b ∷ bs) h e = ap (λ r. ending wide reading ps place r.fields r.left) (cut_part (b ∷ bs) e)

  pub ending_whole : (ps : List (Part V)) (place : ℕ) (bs : List ℕ) → whole bs ≡ true →
      ending_of wide reading ps place bs
      ≡ on_seen (seen wide reading ps (first_field bs).contents (shape (first_field bs).tag)) place
      (λ p. ending_of wide reading (ps ++ p ∷ []) (next_place place (first_field bs)) (after_field bs))
      (λ head body. goals_end ps head body (next_place place (first_field bs)) (cut (after_field bs)).fields (cut (after_field bs)).left)
  ending_whole ps place bs e = ap (λ r. ending wide reading ps place r.fields r.left) (cut_whole bs e)

  -- the row of a book: at its end, at a part of a field, at a whole field
  pub row_nil : (place n : ℕ) → row_of wide reading place n [] ≡ record { entries = []; first_fault = None }
  row_nil place n = ap (λ r. row_means wide reading place n r.fields r.left) cut_nil

  pub row_part : (place n : ℕ) (bs : List ℕ) → 0 < length bs → whole bs ≡ false →
      row_of wide reading place n bs ≡ record { entries = []; first_fault = Some (row_fault PastEnd place n) }
  row_part place n [] h e = absurd (omega arith)
  row_part place n (b ∷ bs) h e = ap (λ r. row_means wide reading place n r.fields r.left) (cut_part (b ∷ bs) e)

  pub row_whole : (place n : ℕ) (bs : List ℕ) → whole bs ≡ true →
      row_of wide reading place n bs
      ≡ on_found (found wide reading place n (first_field bs) (entry_kind (first_field bs).tag))
      (row_of wide reading (next_place place (first_field bs)) (suc n) (after_field bs))
  row_whole place n bs e = ap (λ r. row_means wide reading place n r.fields r.left) (cut_whole bs e)

  -- a book of too many bytes, and any other
  pub meaning_long : (bs : List ℕ) → 65535 < length bs →
      meaning wide reading bs ≡ record { entries = []; first_fault = Some (row_fault TooMuch 0 0) }
  unfolding meaning
  meaning_long bs h =
      ap (λ t. cond t (record { entries = []; first_fault = Some (row_fault TooMuch 0 0) }) (row_of wide reading 0 0 bs)) (lt-ltb 65535 (length bs) h)

  pub meaning_short : (bs : List ℕ) → length bs ≤ 65535 → meaning wide reading bs ≡ row_of wide reading 0 0 bs
  unfolding meaning
  meaning_short bs h =
      ap (λ t. cond t (record { entries = []; first_fault = Some (row_fault TooMuch 0 0) }) (row_of wide reading 0 0 bs)) (le-ltb 65535 (length bs) h)
