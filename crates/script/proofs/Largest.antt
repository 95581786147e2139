-- The largest of some lengths, as the library's words have it.
use Rattle.std.proofs.Common.{◌≡◌, ℕ, max, List, [], ◌∷◌, map, Option, refl, ap, ◌∙◌, sym, arith}
use Rattle.std.proofs.lemmas.Iterator.Adapters.{option_map_id}
use Rattle.std.specs.List.{fold, reduce}
use Rattle.std.specs.Option.{option_map, unwrap_or}
use Rattle.script.specs.Lengths.{largest}

module _ {A : Type 0} (f : A → ℕ) where
  folded : (xs : List A) (n : ℕ) → fold max n (map f xs) ≡ max n (largest f xs)
  folded [] n = omega arith
  folded (x ∷ xs) n = omega (arith, folded xs (max n (f x)))

  of_reduced : (xs : List A) → unwrap_or (reduce max (map f xs)) 0 ≡ largest f xs
  of_reduced [] = refl
  of_reduced (x ∷ xs) = folded xs (f x)

  -- the largest that is found among the lengths, or 0
  pub largest_found : (xs : List A) (r : Option ℕ) → option_map (λ x. x) r ≡ reduce max (map f xs) → unwrap_or r 0 ≡ largest f xs
  largest_found xs r found = ap (λ o. unwrap_or o 0) (sym (option_map_id r) ∙ found) ∙ of_reduced xs
