-- The first of the first cells, and what is written behind the front of a list.
use Rattle.std.proofs.Common.{◌≡◌, ℕ, ◌+◌, ◌-◌, ◌≤◌, List, [], ◌∷◌, ◌++◌, length, take, drop, sym, ap, ◌∙◌, subst, suc-add, zero-add, arith}
use borrow.Rule.Slice.PartMut.{put_mid}
use Rattle.std.proofs.lemmas.List.{length-append, length-take, length-drop, length-take-le, take-take, take-map, take-append-le}
use Rattle.std.proofs.ByRecursion.{All-take}
use Rattle.cells.specs.declared.cell.Cell.{Cell}
use Rattle.cells.specs.Cells.{cell_of, cells_of, Counted, AllCounted}
use Rattle.cells.proofs.Steps.{number}

module _ {L : Type 0} where
  pub cells_front : (m n : ℕ) (xs : List (Cell L)) → m ≤ n → cells_of (take m xs) ≡ take m (cells_of (take n xs))
  cells_front m n xs h = ap cells_of (sym (take-take m n xs h)) ∙ sym (take-map cell_of m (take n xs))

  pub counted_front : (m n : ℕ) (xs : List (Cell L)) → m ≤ n → AllCounted (take n xs) → AllCounted (take m xs)
  counted_front m n xs h a =
      subst AllCounted (take-take m n xs h) (All-take (λ c. Counted c.content) m (take n xs) a)

  pub number_front : (n : ℕ) (xs : List (Cell L)) → n ≤ length xs → length (cells_of (take n xs)) ≡ n
  number_front n xs h = number (take n xs) ∙ length-take-le n xs h

-- a front that goes past the first of two lists
pub take_past : {X : Type 0} (p q : List X) (n : ℕ) → take (length p + n) (p ++ q) ≡ p ++ take n q
take_past [] q n = ap (λ k. take k q) (zero-add n)
take_past (x ∷ p) q n = ap (λ k. take k (x ∷ (p ++ q))) (suc-add (length p) n) ∙ ap (λ l. x ∷ l) (take_past p q n)

-- a list after a write to all that lies behind a front
module _ {X : Type 0} (a : ℕ) (xs ys : List X) (h : a ≤ length xs) where
  abbrev pub behind : List X
  behind = put_mid a (length xs - a) xs ys

  pub behind_more : (n : ℕ) → n ≤ length ys → take (a + n) behind ≡ take a xs ++ take n ys
  behind_more n l =
      let e : length (take a xs) ≡ a = length-take-le a xs h in
      let zs = ys ++ drop (length xs - a) (drop a xs) in
      ap (λ k. take (k + n) (take a xs ++ zs)) (sym e)
      ∙ (take_past (take a xs) zs n ∙ ap (λ l. take a xs ++ l) (take-append-le n ys (drop (length xs - a) (drop a xs)) l))

  pub behind_long : length ys ≡ length xs - a → length behind ≡ length xs
  behind_long e = simp (length-append, length-take, length-drop) (omega arith)
