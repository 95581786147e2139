-- The first cell of a list that is not in use.
use Rattle.std.proofs.Common.{◌≡◌, ℕ, ◌<◌, Bool, true, false, ltb, List, [], ◌∷◌, Some, None, Option, refl, arith}
use Rattle.std.specs.List.{AllByRecursion}
use Rattle.std.proofs.lemmas.Bool.{ltb-true}
use Rattle.theory.specs.Answers.{first_unused}

module _ (n : ℕ) where
  -- where no cell is the first unused, all are in use
  pub all_used : (cs : List ℕ) → first_unused n cs ≡ None → AllByRecursion (λ c. c < n) cs
  all_used [] e = tt
  all_used (c ∷ cs) e = go (ltb c n) refl e (all_used cs)
    where
      go : (b : Bool) → ltb c n ≡ b →
          Path (Option ℕ) (elim b [ true ↦ first_unused n cs | false ↦ Some c ]) None →
          (first_unused n cs ≡ None → AllByRecursion (λ c. c < n) cs) → AllByRecursion (λ c. c < n) (c ∷ cs)
      go true q f later = (ltb-true c n q, later f)
      go false q f later = let z : ◌≡◌ {A = ℕ} 0 1 = cc in absurd (let b : ⊥ = omega arith in b)
