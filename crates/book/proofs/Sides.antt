-- An entry of an annex lies in the one book or the other.
use Rattle.std.proofs.Common.{◌≡◌, ℕ, zero, suc, ◌+◌, ◌-◌, ◌<◌, ◌≤◌, min, List, [], ◌∷◌, ◌++◌, length, None, refl, ap, ◌∙◌, arith}
use mathlib.Core.Logic.{∥∥₁_elim}
use native.Mathlib.Bridge.{le_prop}
use Rattle.std.specs.List.{slice_get}
use Rattle.std.proofs.lemmas.List.{length-append, length-take}
use Rattle.std.proofs.lemmas.Option.{slice_get_past}
use Rattle.theory.specs.Entries.{BookRules, Entry}
use Rattle.book.specs.Annexes.{annexed}
use Rattle.book.proofs.Lookups.{nth_take}

nth_left : {X : Type 0} (xs ys : List X) (i : ℕ) → i < length xs → slice_get (xs ++ ys) i ≡ slice_get xs i
nth_left [] ys i h = absurd (omega arith)
nth_left (x ∷ xs) ys zero h = refl
nth_left (x ∷ xs) ys (suc i) h = nth_left xs ys i (omega arith)

nth_right : {X : Type 0} (xs ys : List X) (i : ℕ) → length xs ≤ i → slice_get (xs ++ ys) i ≡ slice_get ys (i - length xs)
nth_right [] ys i h = ap (slice_get ys) (omega arith)
nth_right (x ∷ xs) ys zero h = absurd (omega arith)
nth_right (x ∷ xs) ys (suc i) h =
    let e : i - length xs ≡ suc i - suc (length xs) = omega arith in
    nth_right xs ys i (omega arith) ∙ ap (slice_get ys) e

module _ {V : Type 0} where
  pub at_most : {es : List (Entry V)} → ∥ BookRules es ∥₁ → length es ≤ 1024
  at_most r = ∥∥₁_elim r le_prop (λ b. b.few)

  module _ (es fs : List (Entry V)) (i : ℕ) where
    pub in_first : ∥ BookRules es ∥₁ → i < length es → slice_get (annexed es fs) i ≡ slice_get es i
    in_first r h = let m : length es ≤ 1024 = at_most r in nth_take 1024 (es ++ fs) i (omega arith) ∙ nth_left es fs i h

    pub in_second : length es ≤ i → i < 1024 → slice_get (annexed es fs) i ≡ slice_get fs (i - length es)
    in_second h k = nth_take 1024 (es ++ fs) i k ∙ nth_right es fs i h

    pub in_none : 1024 ≤ i → slice_get (annexed es fs) i ≡ None
    in_none h = slice_get_past (annexed es fs) i (simp length-take (omega arith))

  pub annexed_count : (es fs : List (Entry V)) → length (annexed es fs) ≡ min (length es + length fs) 1024
  annexed_count es fs = simp (length-take, length-append) (omega arith)
