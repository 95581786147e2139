-- The row of fields that bytes are cut into: its fields hold bytes, and it is those bytes again.
use Rattle.std.proofs.Common.{◌≡◌, ℕ, zero, suc, ◌+◌, ◌*◌, ◌/◌, ◌%◌, ◌<◌, ◌≤◌, Bool, true, false, cond, List, [], ◌∷◌, ◌++◌, length, take, drop, sym, refl, ap, ◌∙◌, append_assoc, arith}
use Rattle.std.specs.List.{AllByRecursion, flat_map}
use Rattle.std.proofs.ByRecursion.{All-drop, All-take}
use Rattle.std.proofs.lemmas.List.{length-take-le, take-append-drop, drop-drop}
use Rattle.std.proofs.lemmas.Bool.{leb-true}
use Rattle.leaf.specs.Bytes.{Bytes, two_bytes}
use Rattle.form.specs.Fields.{Field, Row, field_form, size, whole, first_field, after_field, put, cut_most, cut}
use Rattle.form.proofs.Cuts.{cut_form}
use Rattle.form.proofs.Steps.{cut_nil}

-- a number in two bytes has no other two bytes
pub two_bytes_back : (h l : ℕ) → l < 256 → two_bytes (h * 256 + l) ≡ h ∷ l ∷ []
two_bytes_back h l b =
    let high : (h * 256 + l) / 256 ≡ h = omega arith in
    let low : (h * 256 + l) % 256 ≡ l = omega arith in
    cc

-- the bytes of a field
abbrev pub field_bytes : Field → List ℕ
field_bytes f = field_form f.tag f.contents

-- the contents of a field are bytes
abbrev pub HoldsBytes : Field → Type 0
HoldsBytes f = Bytes f.contents

-- the contents of a field are no more than a length of two bytes tells
abbrev pub Short : Field → Type 0
Short f = length f.contents < 65536

most_bytes : (n : ℕ) (bs : List ℕ) → Bytes bs → AllByRecursion HoldsBytes (cut_most n bs).fields
most_bytes zero bs b = tt
most_bytes (suc n) bs b = go (whole bs) (most_bytes n (after_field bs) (All-drop (λ b. b < 256) (3 + size bs) bs b))
  where
    rest : Row
    rest = cut_most n (after_field bs)

    go : (w : Bool) → AllByRecursion HoldsBytes rest.fields →
        AllByRecursion HoldsBytes (cond w (put (first_field bs) rest) (record { fields = []; left = bs })).fields
    go true h = (All-take (λ b. b < 256) (size bs) (drop 3 bs) (All-drop (λ b. b < 256) 3 bs b), h)
    go false h = tt

-- the fields of bytes hold bytes
pub cut_bytes : (bs : List ℕ) → Bytes bs → AllByRecursion HoldsBytes (cut bs).fields
unfolding cut
cut_bytes bs b = most_bytes (length bs) bs b

-- a whole field and what follows it are the bytes
field_back : (bs : List ℕ) → Bytes bs → whole bs ≡ true → field_bytes (first_field bs) ++ after_field bs ≡ bs
field_back [] b e = absurd (omega (arith, leb-true (3 + size []) 0 e))
field_back (t ∷ []) b e = absurd (omega (arith, leb-true (3 + size (t ∷ [])) 1 e))
field_back (t ∷ h ∷ []) b e = absurd (omega (arith, leb-true (3 + size (t ∷ h ∷ [])) 2 e))
field_back (t ∷ h ∷ l ∷ rest) b e =
    let bs = t ∷ h ∷ l ∷ rest in
    let n = h * 256 + l in
    let fits : 3 + n ≤ length bs = leb-true (3 + n) (length bs) e in
    let low : l < 256 = b.1.1.0 in
    let long : length (take n rest) ≡ n = length-take-le n rest (omega arith) in
    let two : two_bytes (length (take n rest)) ≡ h ∷ l ∷ [] = ap two_bytes long ∙ two_bytes_back h l low in
    let after : drop (3 + n) bs ≡ drop n rest = sym (drop-drop n 3 bs) in
    ap (λ xs. t ∷ ((xs ++ take n rest) ++ drop (3 + n) bs)) two
    ∙ ap (λ xs. t ∷ h ∷ l ∷ (take n rest ++ xs)) after
    ∙ ap (λ xs. t ∷ h ∷ l ∷ xs) (take-append-drop n rest)

most_back : (n : ℕ) (bs : List ℕ) → Bytes bs →
    flat_map field_bytes (cut_most n bs).fields ++ (cut_most n bs).left ≡ bs
most_back zero bs b = refl
most_back (suc n) bs b = go (whole bs) refl (most_back n (after_field bs) (All-drop (λ b. b < 256) (3 + size bs) bs b))
  where
    rest : Row
    rest = cut_most n (after_field bs)

    row : Bool → Row
    row w = cond w (put (first_field bs) rest) (record { fields = []; left = bs })

    go : (w : Bool) → whole bs ≡ w → flat_map field_bytes rest.fields ++ rest.left ≡ after_field bs →
        flat_map field_bytes (row w).fields ++ (row w).left ≡ bs
    go false e again = refl
    go true e again =
        append_assoc (field_bytes (first_field bs)) (flat_map field_bytes rest.fields) rest.left
        ∙ ap (λ xs. field_bytes (first_field bs) ++ xs) again
        ∙ field_back bs b e

-- the fields of bytes, and what is left, are the bytes
pub uncut : (bs : List ℕ) → Bytes bs → flat_map field_bytes (cut bs).fields ++ (cut bs).left ≡ bs
unfolding cut
uncut bs b = most_back (length bs) bs b

-- a row of short fields is cut into those fields
pub recut : (fs : List Field) → AllByRecursion Short fs → cut (flat_map field_bytes fs) ≡ record { fields = fs; left = [] }
recut [] short = cut_nil
recut (f ∷ fs) short =
    cut_form f.tag f.contents (flat_map field_bytes fs) short.0 ∙ ap (put f) (recut fs short.1)
