-- The endless tree s(s(s(.., and what it takes to be equal to it.
use Rattle.std.proofs.Common.{◌≡◌, ℕ, zero, suc, ◌<◌, List, [], ◌∷◌, ◌++◌, Some, None, Option, sym, refl, ap, ◌∙◌, subst, append_assoc, arith, lit<}
use Rattle.theory.specs.Trees.{Tree, Label, IsTree, Present, Branches, InRange}
use Rattle.theory.specs.Worked.{NoLeaf}

-- s is symbol 3
abbrev pub endless : Tree NoLeaf
endless [] = Some (Label.node 3 1)
endless (zero ∷ p) = endless p
endless (suc i ∷ p) = None

-- the one argument has place 0
past_one : (i : ℕ) → suc i < 1 → ⊥
past_one i h = omega arith

-- it is a tree
pub endless_is : IsTree endless
endless_is = record { root = tt; down = down; up = up; range = range }
  where
    down : (p : List ℕ) (i : ℕ) → Branches (endless p) i → Present (endless (p ++ (i ∷ [])))
    down [] zero b = tt
    down [] (suc i) b = absurd (past_one i b)
    down (zero ∷ p) i b = down p i b
    down (suc j ∷ p) i b = absurd b

    up : (p : List ℕ) (i : ℕ) → Present (endless (p ++ (i ∷ []))) → Branches (endless p) i
    up [] zero b = lit< tt
    up [] (suc i) b = absurd b
    up (zero ∷ p) i b = up p i b
    up (suc j ∷ p) i b = absurd b

    range : (p : List ℕ) → InRange (endless p)
    range [] = lit< tt
    range (zero ∷ p) = range p
    range (suc j ∷ p) = tt

module _ {V : Type 0} where
  -- where a label is not present there is none
  bare : (o : Option (Label V)) → (Present o → ⊥) → o ≡ None
  bare None n = refl
  bare (Some l) n = absurd (n tt)

  -- so at an argument place that the label lacks
  next_bare : (t : Tree V) → IsTree t → (q : List ℕ) (j : ℕ) → (Branches (t q) j → ⊥) → t (q ++ (j ∷ [])) ≡ None
  next_bare t is q j d = bare (t (q ++ (j ∷ []))) (λ h. d (is.up q j h))

  -- a tree has no label below an argument place that it lacks
  pub all_bare : (t : Tree V) → IsTree t → (r q : List ℕ) (j : ℕ) → (Branches (t q) j → ⊥) →
      t (q ++ (j ∷ r)) ≡ None
  all_bare t is [] q j d = next_bare t is q j d
  all_bare t is (k ∷ r) q j d =
      ap t (sym (append_assoc q (j ∷ []) (k ∷ r)))
      ∙ all_bare t is r (q ++ (j ∷ [])) k (λ b. subst (λ o. Branches o k) (next_bare t is q j d) b)

  -- as of the second and later arguments of a node with one
  pub one_child : (t : Tree V) → IsTree t → (f : ℕ) → t [] ≡ Some (Label.node f 1) → (i : ℕ) (p : List ℕ) →
      t (suc i ∷ p) ≡ None
  one_child t is f e i p = all_bare t is p [] (suc i) (λ b. past_one i (subst (λ o. Branches o (suc i)) e b))
