-- The i-th argument of a node, and its tree.
use Rattle.std.proofs.Common.{◌≡◌, ℕ, zero, suc, ◌+◌, ◌<◌, List, [], ◌∷◌, length, Some, None, Option, sym, refl, ap, ◌∙◌, subst, add-zero, add-suc, suc-add, arith}
use Rattle.std.specs.List.{slice_get, AllByRecursion}
use Rattle.theory.specs.Trees.{Tree, Same, child}
use Rattle.theory.specs.Equations.{Children}

abbrev IsSome : {A : Type 0} → Option A → Type 0
IsSome None = ⊥
IsSome (Some x) = Unit {0}

pub none_some : {A : Type 0} {x : A} → None ≡ Some x → ⊥
none_some e = subst IsSome (sym e) tt

pub some_same : {A : Type 0} {x y : A} → Some x ≡ Some y → x ≡ y
some_same {x = x} {y = y} e = cc

pub nth_inside : (xs : List ℕ) (k x : ℕ) → slice_get xs k ≡ Some x → k < length xs
nth_inside [] k x e = absurd (none_some e)
nth_inside (y ∷ ys) zero x e = omega arith
nth_inside (y ∷ ys) (suc k) x e = let h : k < length ys = nth_inside ys k x e in omega arith

pub nth_all : (P : ℕ → Type 0) (xs : List ℕ) → AllByRecursion P xs → (k x : ℕ) → slice_get xs k ≡ Some x → P x
nth_all P [] a k x e = absurd (none_some e)
nth_all P (y ∷ ys) a zero x e = subst P (some_same e) a.0
nth_all P (y ∷ ys) a (suc k) x e = nth_all P ys a.1 k x e

module _ {V : Type 0} (ρ : ℕ → Tree V) where
  pub children_from : (t : Tree V) (i : ℕ) (xs : List ℕ) →
      ((k x : ℕ) → slice_get xs k ≡ Some x → Same (child t (i + k)) (ρ x)) → Children ρ t i xs
  children_from t i [] h = tt
  children_from t i (x ∷ xs) h = (
    λ p. subst (λ n. t (n ∷ p) ≡ ρ x p) (add-zero i) (h 0 x refl p),
    children_from t (suc i) xs (λ k y e p. subst (λ n. t (n ∷ p) ≡ ρ y p) (add-suc i k ∙ sym (suc-add i k)) (h (suc k) y e p)),
  )

  pub child_at : (t : Tree V) (i : ℕ) (xs : List ℕ) → Children ρ t i xs →
      (k x : ℕ) → slice_get xs k ≡ Some x → Same (child t (i + k)) (ρ x)
  child_at t i [] c k x e p = absurd (none_some e)
  child_at t i (y ∷ ys) c zero x e p =
      subst (λ n. t (n ∷ p) ≡ ρ x p) (sym (add-zero i)) (c.0 p ∙ ap (λ z. ρ z p) (some_same e))
  child_at t i (y ∷ ys) c (suc k) x e p =
      subst (λ n. t (n ∷ p) ≡ ρ x p) (suc-add i k ∙ sym (add-suc i k)) (child_at t (suc i) ys c.1 k x e p)
