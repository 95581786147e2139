-- Fields: a tag, a length in two bytes, and that many bytes; and the cut of bytes into a row of fields. Assumes nothing.
use Rattle.std.specs.Prelude.{ℕ, zero, suc, ◌+◌, ◌*◌, Bool, cond, List, [], ◌∷◌, ◌++◌, length, take, drop, nat_le, slice_index}
use Rattle.leaf.specs.Bytes.{two_bytes}

-- a field: its tag and its contents
pub record Field : Type 0 where
  pub tag : ℕ
  pub contents : List ℕ

-- the bytes of a field
abbrev pub field_form : ℕ → List ℕ → List ℕ
field_form tag contents = tag ∷ (two_bytes (length contents) ++ contents)

-- the length that the second and third bytes give, the high byte first
abbrev pub size : List ℕ → ℕ
size bs = slice_index bs 1 * 256 + slice_index bs 2

-- the bytes begin with a whole field
abbrev pub whole : List ℕ → Bool
whole bs = nat_le (3 + size bs) (length bs)

-- the field that they begin with
abbrev pub first_field : List ℕ → Field
first_field bs = record { tag = slice_index bs 0; contents = take (size bs) (drop 3 bs) }

-- what follows it
abbrev pub after_field : List ℕ → List ℕ
after_field bs = drop (3 + size bs) bs

-- a row of fields, and what is left after them, which begins with no whole field
pub record Row : Type 0 where
  pub fields : List Field
  pub left : List ℕ

-- the row of a first field and what follows it
abbrev pub put : Field → Row → Row
put f r = record { fields = f ∷ r.fields; left = r.left }

-- the row that bytes begin with, of at most so many fields
abbrev pub cut_most : ℕ → List ℕ → Row
cut_most zero bs = record { fields = []; left = bs }
cut_most (suc n) bs =
    cond (whole bs) (put (first_field bs) (cut_most n (after_field bs))) (record { fields = []; left = bs })

-- the bytes as a row of fields; there are no more fields than bytes
unfoldable pub cut : List ℕ → Row
cut bs = cut_most (length bs) bs
