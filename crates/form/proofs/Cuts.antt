-- The cut of bytes into fields: one field at a time, and back.
use Rattle.std.proofs.Common.{◌≡◌, ℕ, zero, suc, ◌+◌, ◌-◌, ◌<◌, ◌≤◌, Bool, true, false, cond, List, [], ◌∷◌, ◌++◌, length, take, drop, sym, refl, ap, ◌∙◌, arith}
use Rattle.std.proofs.lemmas.List.{length-append, length-drop, take_at, drop_at, drop-drop}
use Rattle.std.proofs.lemmas.Bool.{le-leb, leb-true}
use Rattle.form.specs.Fields.{Row, field_form, size, whole, first_field, after_field, put, cut_most, cut}

-- the cut does not depend on a bound that is large enough
more_cut : (n m : ℕ) (bs : List ℕ) → length bs ≤ n → length bs ≤ m → cut_most n bs ≡ cut_most m bs
more_cut zero zero bs h k = refl
more_cut zero (suc m) [] h k = refl
more_cut zero (suc m) (b ∷ bs) h k = absurd (omega arith)
more_cut (suc n) zero [] h k = refl
more_cut (suc n) zero (b ∷ bs) h k = absurd (omega arith)
more_cut (suc n) (suc m) bs h k = go (whole bs) refl (more_cut n m (after_field bs))
  where
    none : Row
    none = record { fields = []; left = bs }

    go : (w : Bool) → whole bs ≡ w →
        (length (after_field bs) ≤ n → length (after_field bs) ≤ m → cut_most n (after_field bs) ≡ cut_most m (after_field bs)) →
        cond w (put (first_field bs) (cut_most n (after_field bs))) none ≡ cond w (put (first_field bs) (cut_most m (after_field bs))) none
    go false e again = refl
    go true e again =
        let w : 3 + size bs ≤ length bs = leb-true (3 + size bs) (length bs) e in
        let d = length-drop (3 + size bs) bs in
        ap (put (first_field bs)) (again (omega arith) (omega arith))

-- bytes that begin with a whole field
pub cut_whole : (bs : List ℕ) → whole bs ≡ true → cut bs ≡ put (first_field bs) (cut (after_field bs))
unfolding cut
cut_whole [] e = absurd (omega (arith, leb-true (3 + size []) 0 e))
cut_whole (b ∷ bs) e =
    let rest = after_field (b ∷ bs) in
    let w : 3 + size (b ∷ bs) ≤ length (b ∷ bs) = leb-true (3 + size (b ∷ bs)) (length (b ∷ bs)) e in
    let d : length rest ≡ length (b ∷ bs) - (3 + size (b ∷ bs)) = length-drop (3 + size (b ∷ bs)) (b ∷ bs) in
    ap (λ t. cond t (put (first_field (b ∷ bs)) (cut_most (length bs) rest)) (record { fields = []; left = b ∷ bs })) e
    ∙ ap (put (first_field (b ∷ bs))) (more_cut (length bs) (length rest) rest (omega arith) (omega arith))

-- bytes that do not
pub cut_part : (bs : List ℕ) → whole bs ≡ false → cut bs ≡ record { fields = []; left = bs }
unfolding cut
cut_part [] e = refl
cut_part (b ∷ bs) e =
    ap (λ t. cond t (put (first_field (b ∷ bs)) (cut_most (length bs) (after_field (b ∷ bs)))) (record { fields = []; left = b ∷ bs })) e

module _ (tag : ℕ) (cs rest : List ℕ) (short : length cs < 65536) where
  -- the bytes of a field begin with it, and go on with the rest
  abbrev bytes : List ℕ
  bytes = field_form tag cs ++ rest

  pub size_form : size bytes ≡ length cs
  size_form = omega arith

  pub whole_form : whole bytes ≡ true
  whole_form = le-leb (3 + size bytes) (length bytes) (omega (arith, size_form, length-append cs rest))

  pub first_form : first_field bytes ≡ record { tag = tag; contents = cs }
  first_form = ap (λ (xs : List ℕ). record { tag = tag; contents = xs }) (ap (λ n. take n (cs ++ rest)) size_form ∙ take_at cs rest (length cs) refl)

  pub after_form : after_field bytes ≡ rest
  after_form =
      let e : 3 + size bytes ≡ 3 + length cs = ap (λ n. 3 + n) size_form in
      ap (λ n. drop n bytes) e ∙ sym (drop-drop (length cs) 3 bytes) ∙ drop_at cs rest (length cs) refl

  pub cut_form : cut bytes ≡ put (record { tag = tag; contents = cs }) (cut rest)
  cut_form = cut_whole bytes whole_form ∙ (rw (first_form, after_form) refl)
