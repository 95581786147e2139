-- Shelf marks and their bytes: writing what was read gives the bytes, and only a first byte that is no letter is refused.
use Rattle.std.specs.Prelude.{◌≡◌, ℕ, ◌+◌, ◌*◌, ◌/◌, ◌%◌, ◌<◌, not, List, [], ◌∷◌, length, is_some, Some, None, Option, refl}
use Rattle.std.proofs.Common.{sym, ◌∙◌, ap, arith}
use Rattle.std.specs.Option.{option_map}
use Rattle.leaf.specs.declared.letter.Letter.{Letter}
use Rattle.leaf.specs.declared.shelf_mark.ShelfMark.{ShelfMark}
use Rattle.leaf.specs.Bytes.{Bytes, two_bytes}
use Rattle.leaf.specs.ShelfMarks.{code, letter_of, mark_bytes, mark_of, no_letter}
use Rattle.leaf.specs.Letters.{code_letter, is_letter}

pub two_bytes_of : (h l : ℕ) → l < 256 → two_bytes (h * 256 + l) ≡ h ∷ l ∷ []
two_bytes_of h l b =
    let high : (h * 256 + l) / 256 ≡ h = omega arith in
    let low : (h * 256 + l) % 256 ≡ l = omega arith in
    cc

pub mark_rewrites : (bs : List ℕ) (v : ShelfMark) → Bytes bs → mark_of bs ≡ Some v → mark_bytes v ≡ bs
mark_rewrites [] v b e = let z : ◌≡◌ {A = ℕ} 0 1 = cc in absurd (omega arith)
mark_rewrites (x ∷ []) v b e = let z : ◌≡◌ {A = ℕ} 0 1 = cc in absurd (omega arith)
mark_rewrites (x ∷ y ∷ []) v b e = let z : ◌≡◌ {A = ℕ} 0 1 = cc in absurd (omega arith)
mark_rewrites (x ∷ y ∷ z ∷ []) v b e = go (letter_of x) refl e
  where
    go : (o : Option Letter) → letter_of x ≡ o → option_map (λ l. record { letter = l; number = y * 256 + z }) o ≡ Some v → mark_bytes v ≡ x ∷ y ∷ z ∷ []
    go None f g = let q : ◌≡◌ {A = ℕ} 0 1 = cc in absurd (omega arith)
    go (Some l) f g =
        let m : ShelfMark = record { letter = l; number = y * 256 + z } in
        let same : m ≡ v = cc in
        let first : code l ≡ x = code_letter x l f in
        let rest : two_bytes (y * 256 + z) ≡ y ∷ z ∷ [] = two_bytes_of y z b.1.1.0 in
        ap mark_bytes (sym same) ∙ cc
mark_rewrites (x ∷ y ∷ z ∷ w ∷ rest) v b e = let q : ◌≡◌ {A = ℕ} 0 1 = cc in absurd (omega arith)

pub marks_named : (bs : List ℕ) → length bs ≡ 3 → is_some (mark_of bs) ≡ not (no_letter bs)
marks_named [] e = absurd (omega arith)
marks_named (x ∷ []) e = absurd (omega arith)
marks_named (x ∷ y ∷ []) e = absurd (omega arith)
marks_named (x ∷ y ∷ z ∷ []) e = go (letter_of x) ∙ is_letter x
  where
    go : (o : Option Letter) → is_some {T = ShelfMark} (option_map (λ (l : Letter). record { letter = l; number = y * 256 + z }) o) ≡ is_some o
    go None = refl
    go (Some l) = refl
marks_named (x ∷ y ∷ z ∷ w ∷ rest) e = absurd (omega arith)
