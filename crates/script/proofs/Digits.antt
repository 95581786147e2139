-- Digits are read one at a time.
use Rattle.std.proofs.Common.{◌≡◌, ℕ, suc, ◌+◌, ◌-◌, ◌*◌, ◌<◌, ◌≤◌, ◌⊎◌, List, [], ◌∷◌, length, get_or, drop, ap, ◌∙◌, subst, inl, inr, arith, drop-cons}
use Rattle.script.specs.Numbers.{Digits, value_after, IsNumber}

-- of the digits of a text, those before the rest write n
pub record SoFar (text rest : List ℕ) (n : ℕ) : Type 0 where
  pub same : value_after n rest ≡ value_after 0 text
  pub back : Digits rest → Digits text
  pub on : Digits text → Digits rest

grows : (n : ℕ) (bs : List ℕ) → n ≤ value_after n bs
grows n [] = omega arith
grows n (b ∷ bs) = omega (arith, grows (n * 10 + (b - 48)) bs)

module _ (text : List ℕ) (i n : ℕ) (s : SoFar text (drop i text) n) where
  module _ (inside : i < length text) where
    opened : SoFar text (get_or text i 0 ∷ drop (i + 1) text) n
    opened =
        let e : suc i ≡ i + 1 = omega arith in
        subst (λ l. SoFar text l n) (drop-cons text i 0 inside ∙ ap (λ k. get_or text i 0 ∷ drop k text) e) s

    pub no_number : (most : ℕ) → (get_or text i 0 < 48) ⊎ (57 < get_or text i 0) ⊎ (most < n * 10 + (get_or text i 0 - 48))
        → IsNumber most text → ⊥
    no_number most (inl low) p = omega (arith, (opened.on p.digits).0)
    no_number most (inr (inl high)) p = omega (arith, (opened.on p.digits).1)
    no_number most (inr (inr over)) p =
        omega (arith, p.allowed, opened.same, grows (n * 10 + (get_or text i 0 - 48)) (drop (i + 1) text))
