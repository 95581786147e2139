-- Solved form has one proof at most, so it can be kept beside cells and taken out again.
use Rattle.std.proofs.Common.{ℕ, ◌<◌, List, [], ◌∷◌, refl}
use mathlib.Core.HLevel.{Π_prop, ×_prop}
use native.Mathlib.Bridge.{le_prop}
use native.Mathlib.Nat.{ℕ_set}
use Rattle.std.specs.List.{AllByRecursion}
use Rattle.unify.specs.Cells.{Content, variable, leaf, node, Cell, content_at, root}
use Rattle.unify.specs.Solved.{Matches, SameRoots, Lower, Descends, Agrees, Solved}

below_prop : (n : ℕ) (xs : List ℕ) → IsProp (AllByRecursion (λ x. x < n) xs)
below_prop n [] = λ x y. refl
below_prop n (x ∷ xs) = ×_prop le_prop (below_prop n xs)

module _ {V : Type 0} (set : IsSet V) (cs : List (Cell V)) where
  roots_prop : (xs ys : List ℕ) → IsProp (SameRoots cs xs ys)
  roots_prop [] [] = λ x y. refl
  roots_prop [] (y ∷ ys) = λ u v. absurd u
  roots_prop (x ∷ xs) [] = λ u v. absurd u
  roots_prop (x ∷ xs) (y ∷ ys) = ×_prop (ℕ_set (root cs x) (root cs y)) (roots_prop xs ys)

  matches_prop : (c d : Content V) → IsProp (Matches (SameRoots cs) c d)
  matches_prop variable d = λ u v. refl
  matches_prop (leaf v) variable = λ u w. absurd u
  matches_prop (leaf v) (leaf w) = set v w
  matches_prop (leaf v) (node g ys) = λ u w. absurd u
  matches_prop (node f xs) variable = λ u w. absurd u
  matches_prop (node f xs) (leaf w) = λ u v. absurd u
  matches_prop (node f xs) (node g ys) = ×_prop (ℕ_set f g) (roots_prop xs ys)

  lower_prop : IsProp (Lower cs)
  lower_prop = Π_prop (λ i. Π_prop (λ f. Π_prop (λ xs. Π_prop (λ e. ×_prop le_prop (below_prop i xs)))))

  descends_prop : IsProp (Descends cs)
  descends_prop = Π_prop (λ i. Π_prop (λ j. Π_prop (λ e. le_prop)))

  agrees_prop : IsProp (Agrees cs)
  agrees_prop = Π_prop (λ i. Π_prop (λ j. Π_prop (λ e. matches_prop (content_at cs i) (content_at cs j))))

  pub solved_prop : IsProp (Solved cs)
  solved_prop u v = λ i. record {
    few = le_prop u.few v.few i;
    lower = lower_prop u.lower v.lower i;
    descends = descends_prop u.descends v.descends i;
    agrees = agrees_prop u.agrees v.agrees i;
  }

  -- out of a truncation
  pub solved_out : ∥ Solved cs ∥₁ → Solved cs
  solved_out t = ∥∥₁_rec solved_prop (λ s. s) t
