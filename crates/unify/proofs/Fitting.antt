-- What it means that two roots fit or not.
use Rattle.std.proofs.Common.{◌≡◌, ℕ, ◌<◌, ◌≤◌, Bool, true, false, cond, eqb, [], length, Some, Option, sym, refl, ◌∙◌, arith}
use Rattle.std.proofs.lemmas.Bool.{both_ways, eqb-true, eqb-false}
use Rattle.theory.specs.Trees.{Tree, Label, Same}
use Rattle.unify.specs.Cells.{Content, variable, leaf, node, most, rank_of}
use Rattle.unify.specs.Solved.{Matches}
use Rattle.unify.specs.Unify.{fits}
use Rattle.unify.specs.Theorems.{Decides}
use Rattle.unify.proofs.Roots.{IsVariable}
use Rattle.unify.proofs.Matching.{SameLength}
use Rattle.unify.proofs.CellReads.{MeetsContent}

-- a test and then another both hold
both_hold : (b d : Bool) → cond b d false ≡ true → (b ≡ true) × (d ≡ true)
both_hold true d e = (refl, e)
both_hold false d e = absurd (both_ways false refl e)

pub same_node : (V : Type 0) (f g m n : ℕ) → ◌≡◌ {A = Option (Label V)} (Some (Label.node f m)) (Some (Label.node g n)) → (f ≡ g) × (m ≡ n)
same_node V f g m n e = (cc, cc)

same_leaf : {V : Type 0} (v w : V) → Some (Label.leaf v) ≡ Some (Label.leaf w) → v ≡ w
same_leaf v w e = cc

pub leaf_node : {V : Type 0} (v : V) (f n : ℕ) → Some (Label.leaf v) ≡ Some (Label.node f n) → ⊥
leaf_node v f n e = let z : ◌≡◌ {A = ℕ} 0 1 = cc in omega arith

-- ranks of different cells differ
pub ranks_apart : {V : Type 0} (c d : Content V) (i j : ℕ) → i < most → j < most → (i ≡ j → ⊥) → rank_of c i ≤ rank_of d j → rank_of c i < rank_of d j
ranks_apart variable variable i j h k n r = omega arith
ranks_apart variable (leaf w) i j h k n r = omega arith
ranks_apart variable (node g ys) i j h k n r = omega arith
ranks_apart (leaf v) variable i j h k n r = omega arith
ranks_apart (leaf v) (leaf w) i j h k n r = omega arith
ranks_apart (leaf v) (node g ys) i j h k n r = omega arith
ranks_apart (node f xs) variable i j h k n r = omega arith
ranks_apart (node f xs) (leaf w) i j h k n r = omega arith
ranks_apart (node f xs) (node g ys) i j h k n r = omega arith

module _ {V : Type 0} (same : V → V → Bool) (open_joins : Bool) (law : Decides same) where
  nodes_fit : (f g m n : ℕ) → cond (eqb f g) (eqb m n) false ≡ true → (f ≡ g) × (m ≡ n)
  nodes_fit f g m n e =
      let h = both_hold (eqb f g) (eqb m n) e in (eqb-true f g h.0, eqb-true m n h.1)

  -- the first is the higher one
  pub fit_down : (c d : Content V) (i j : ℕ) → i < most → rank_of d j < rank_of c i → fits same open_joins c d ≡ true → Matches SameLength c d
  unfolding fits
  fit_down variable d i j h r e = tt
  fit_down (leaf v) variable i j h r e = omega arith
  fit_down (leaf v) (leaf w) i j h r e = law.yields v w e
  fit_down (leaf v) (node g ys) i j h r e = both_ways false refl e
  fit_down (node f xs) variable i j h r e = omega arith
  fit_down (node f xs) (leaf w) i j h r e = both_ways false refl e
  fit_down (node f xs) (node g ys) i j h r e = nodes_fit f g (length xs) (length ys) e

  -- the second is the higher one
  pub fit_up : (c d : Content V) (i j : ℕ) → j < most → rank_of c i < rank_of d j → fits same open_joins c d ≡ true → Matches SameLength d c
  unfolding fits
  fit_up variable variable i j h r e = tt
  fit_up variable (leaf w) i j h r e = omega arith
  fit_up variable (node g ys) i j h r e = omega arith
  fit_up (leaf v) variable i j h r e = tt
  fit_up (leaf v) (leaf w) i j h r e = sym (law.yields v w e)
  fit_up (leaf v) (node g ys) i j h r e = both_ways false refl e
  fit_up (node f xs) variable i j h r e = tt
  fit_up (node f xs) (leaf w) i j h r e = both_ways false refl e
  fit_up (node f xs) (node g ys) i j h r e =
      let m = nodes_fit f g (length xs) (length ys) e in (sym m.0, sym m.1)

  -- where open roots are not joined, both are no variables
  pub fit_written : open_joins ≡ false → (c d : Content V) → fits same open_joins c d ≡ true → (IsVariable c → ⊥) × (IsVariable d → ⊥)
  unfolding fits
  fit_written n variable d e = absurd (both_ways open_joins n e)
  fit_written n (leaf v) variable e = absurd (both_ways open_joins n e)
  fit_written n (leaf v) (leaf w) e = (λ x. x, λ x. x)
  fit_written n (leaf v) (node g ys) e = (λ x. x, λ x. x)
  fit_written n (node f xs) variable e = absurd (both_ways open_joins n e)
  fit_written n (node f xs) (leaf w) e = (λ x. x, λ x. x)
  fit_written n (node f xs) (node g ys) e = (λ x. x, λ x. x)

  -- a leaf or node with another that does not fit: no reading gives them one tree
  nodes_differ : (f g m n : ℕ) → cond (eqb f g) (eqb m n) false ≡ false → (f ≡ g) × (m ≡ n) → ⊥
  nodes_differ f g m n e h = go (eqb f g) (eqb m n) (eqb-false f g) (eqb-false m n) e
    where
      go : (s t : Bool) → (s ≡ false → f ≡ g → ⊥) → (t ≡ false → m ≡ n → ⊥) → cond s t false ≡ false → ⊥
      go true t p q e = q e h.1
      go false t p q e = p refl h.0

  pub unfit_labels : (ρ : ℕ → Tree V) (i j : ℕ) (c d : Content V) → (IsVariable c → ⊥) → (IsVariable d → ⊥) →
      fits same open_joins c d ≡ false → MeetsContent ρ i c → MeetsContent ρ j d → Same (ρ i) (ρ j) → ⊥
  unfolding fits
  unfit_labels ρ i j variable d p q e m n s = p tt
  unfit_labels ρ i j (leaf v) variable p q e m n s = q tt
  unfit_labels ρ i j (leaf v) (leaf w) p q e m n s = law.denies v w e (same_leaf v w (sym m ∙ (s [] ∙ n)))
  unfit_labels ρ i j (leaf v) (node g ys) p q e m n s = leaf_node v g (length ys) (sym m ∙ (s [] ∙ n.0))
  unfit_labels ρ i j (node f xs) variable p q e m n s = q tt
  unfit_labels ρ i j (node f xs) (leaf w) p q e m n s = leaf_node w f (length xs) (sym n ∙ (sym (s []) ∙ m.0))
  unfit_labels ρ i j (node f xs) (node g ys) p q e m n s =
      nodes_differ f g (length xs) (length ys) e (same_node V f g (length xs) (length ys) (sym m.0 ∙ (s [] ∙ n.0)))
