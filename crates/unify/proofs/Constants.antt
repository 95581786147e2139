-- Trees with a root alone, and what a tree lacks below its labels.
use Rattle.std.proofs.Common.{◌≡◌, ℕ, zero, suc, ◌<◌, [], ◌∷◌, ◌++◌, Some, None, Option, sym, refl, subst, append_assoc, append-nil, not-suc-le-zero, arith}
use Rattle.theory.specs.Trees.{Tree, Label, IsTree, Present, Branches, InRange, Place}

-- a symbol other than the given one
abbrev pub other : ℕ → ℕ
other zero = 1
other (suc n) = 0

pub other_apart : (n : ℕ) → other n ≡ n → ⊥
other_apart zero e = omega arith
other_apart (suc n) e = omega arith

pub other_small : (n : ℕ) → other n < 65536
other_small zero = omega arith
other_small (suc n) = omega arith

-- a tree that is a symbol with no arguments
abbrev pub constant : {V : Type 0} → ℕ → Tree V
constant f [] = Some (Label.node f 0)
constant f (k ∷ p) = None

pub constant_is_tree : {V : Type 0} (f : ℕ) → f < 65536 → IsTree {V = V} (constant f)
constant_is_tree {V} f h = record { root = tt; down = down; up = up; range = range }
  where
    t : Tree V
    t = constant f

    down : (p : Place) (i : ℕ) → Branches (t p) i → Present (t (p ++ (i ∷ [])))
    down [] i b = absurd (not-suc-le-zero b)
    down (k ∷ p) i b = absurd b

    up : (p : Place) (i : ℕ) → Present (t (p ++ (i ∷ []))) → Branches (t p) i
    up [] i b = absurd b
    up (k ∷ p) i b = absurd b

    range : (p : Place) → InRange (t p)
    range [] = h
    range (k ∷ p) = tt

module _ {V : Type 0} where
  branches_present : (o : Option (Label V)) (i : ℕ) → Branches o i → Present o
  branches_present None i b = absurd b
  branches_present (Some l) i b = tt

  none_if : (o : Option (Label V)) → (Present o → ⊥) → o ≡ None
  none_if None h = refl
  none_if (Some l) h = absurd (h tt)

  module _ (t : Tree V) (is : IsTree t) where
    above : (p q : Place) → Present (t (q ++ p)) → Present (t q)
    above [] q h = subst (λ z. Present (t z)) (append-nil q) h
    above (i ∷ p) q h = branches_present (t q) i (is.up q i (above p (q ++ (i ∷ [])) (subst (λ z. Present (t z)) (sym (append_assoc q (i ∷ []) p)) h)))

    -- where the root has no such argument there is nothing below it
    pub nothing_below : (k : ℕ) → (Branches (t []) k → ⊥) → (p : Place) → t (k ∷ p) ≡ None
    nothing_below k h p = none_if (t (k ∷ p)) (λ x. h (is.up [] k (above p (k ∷ []) x)))
