-- What holds of each element of a list, and small facts, beside the lemmas of the shelf.
use Rattle.std.proofs.Common.{◌≡◌, ℕ, zero, suc, List, [], ◌∷◌, ◌++◌, map, get_or, Some, None, Option, sym, ap, subst, arith}
use Rattle.std.specs.List.{slice_get, AllByRecursion}

-- there is something
abbrev IsSome : {A : Type 0} → Option A → Type 0
IsSome None = ⊥
IsSome (Some a) = Unit {0}

-- nothing is not something
pub none_some : {A : Type 0} {a : A} → Path (Option A) None (Some a) → ⊥
none_some q = subst IsSome (sym q) tt

-- what there is, or a default
abbrev some_or : {A : Type 0} → A → Option A → A
some_or d None = d
some_or d (Some a) = a

-- something is one thing
pub some_inj : {A : Type 0} {a b : A} → Path (Option A) (Some a) (Some b) → a ≡ b
some_inj {a = a} q = ap (some_or a) q

module _ {K : Type 0} (P : K → Type 0) where
  -- of the front of a joined list
  pub all_left : (a b : List K) → AllByRecursion P (a ++ b) → AllByRecursion P a
  all_left [] b m = tt
  all_left (x ∷ a) b m = (m.0, all_left a b m.1)

  -- of its end
  pub all_right : (a b : List K) → AllByRecursion P (a ++ b) → AllByRecursion P b
  all_right [] b m = m
  all_right (x ∷ a) b m = all_right a b m.1

  -- of the element at any place, if it holds of the default too
  pub all_or : (l : List K) (d : K) → AllByRecursion P l → P d → (i : ℕ) → P (get_or l i d)
  all_or [] d a p i = p
  all_or (x ∷ l) d a p zero = a.0
  all_or (x ∷ l) d a p (suc i) = all_or l d a.1 p i

  -- of an element that was found
  pub all_nth : (l : List K) (i : ℕ) (x : K) → AllByRecursion P l → slice_get l i ≡ Some x → P x
  all_nth [] i x a f = absurd (none_some f)
  all_nth (y ∷ l) zero x a f = subst P (some_inj f) a.0
  all_nth (y ∷ l) (suc i) x a f = all_nth l i x a.1 f

  -- of every element, if it holds of all there are
  pub all_any : ((x : K) → P x) → (l : List K) → AllByRecursion P l
  all_any h [] = tt
  all_any h (x ∷ l) = (h x, all_any h l)

-- of the list that was mapped
pub all_unmap : {K L : Type 0} (P : L → Type 0) (g : K → L) (l : List K) → AllByRecursion P (map g l) → AllByRecursion (λ x. P (g x)) l
all_unmap P g [] a = tt
all_unmap P g (x ∷ l) a = (a.0, all_unmap P g l a.1)

-- anything follows where two constructors are said to be equal, since `cc` then proves this
pub never : {A : Type 0} → ◌≡◌ {A = ℕ} 0 1 → A
never e = absurd (bad e)
  where
    bad : ◌≡◌ {A = ℕ} 0 1 → ⊥
    bad e = omega arith
