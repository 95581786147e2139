-- The reading of cells gives trees.
use Rattle.std.proofs.Common.{◌≡◌, ℕ, zero, suc, ◌<◌, List, [], ◌∷◌, ◌++◌, length, Some, None, Option, refl, le_of_suc-le-suc, not-suc-le-zero, arith}
use Rattle.std.specs.List.{slice_get}
use Rattle.theory.specs.Trees.{Tree, Label, IsTree, Present, Branches, InRange, Place}
use Rattle.unify.specs.Cells.{Content, variable, leaf, node, Cell, content_at, root}
use Rattle.unify.specs.Solved.{Lower}
use Rattle.unify.specs.Readings.{reading, label_here, label_below, label_of_argument}

module _ {V : Type 0} (cs : List (Cell V)) (lower : Lower cs) (given : ℕ → Tree V) (trees : (i : ℕ) → IsTree (given i)) where
  abbrev at : ℕ → Tree V
  at i = reading cs given i

  here : (c : Content V) (r : ℕ) → Present (label_here c (given r []))
  here variable r = (trees r).root
  here (leaf v) r = tt
  here (node f xs) r = tt

  present : (i : ℕ) → Present (at i [])
  unfolding reading
  present i = here (content_at cs (root cs i)) (root cs i)

  argument_present : (xs : List ℕ) (k : ℕ) → k < length xs → Present (label_of_argument (slice_get xs k) (λ x. at x []))
  argument_present [] k h = absurd (not-suc-le-zero h)
  argument_present (x ∷ xs) zero h = present x
  argument_present (x ∷ xs) (suc k) h = argument_present xs k (le_of_suc-le-suc h)

  argument_inside : (xs : List ℕ) (k : ℕ) (go : ℕ → Option (Label V)) → Present (label_of_argument (slice_get xs k) go) → k < length xs
  argument_inside [] k go h = absurd h
  argument_inside (x ∷ xs) zero go h = omega arith
  argument_inside (x ∷ xs) (suc k) go h = let w : k < length xs = argument_inside xs k go h in omega arith

  down_here : (c : Content V) (r k : ℕ) → Branches (label_here c (given r [])) k →
      Present (label_below c (given r (k ∷ [])) k (λ x. at x []))
  down_here variable r k b = (trees r).down [] k b
  down_here (leaf v) r k b = absurd b
  down_here (node f xs) r k b = argument_present xs k b

  up_here : (c : Content V) (r k : ℕ) → Present (label_below c (given r (k ∷ [])) k (λ x. at x [])) →
      Branches (label_here c (given r [])) k
  up_here variable r k b = (trees r).up [] k b
  up_here (leaf v) r k b = absurd b
  up_here (node f xs) r k b = argument_inside xs k (λ x. at x []) b

  down_argument : (o : Option ℕ) (p : Place) (k : ℕ) → ((x : ℕ) → Branches (at x p) k → Present (at x (p ++ (k ∷ [])))) →
      Branches (label_of_argument o (λ x. at x p)) k → Present (label_of_argument o (λ x. at x (p ++ (k ∷ []))))
  down_argument None p k ih b = absurd b
  down_argument (Some x) p k ih b = ih x b

  up_argument : (o : Option ℕ) (p : Place) (k : ℕ) → ((x : ℕ) → Present (at x (p ++ (k ∷ []))) → Branches (at x p) k) →
      Present (label_of_argument o (λ x. at x (p ++ (k ∷ [])))) → Branches (label_of_argument o (λ x. at x p)) k
  up_argument None p k ih b = absurd b
  up_argument (Some x) p k ih b = ih x b

  down_below : (c : Content V) (r j : ℕ) (p : Place) (k : ℕ) →
      ((x : ℕ) → Branches (at x p) k → Present (at x (p ++ (k ∷ [])))) →
      Branches (label_below c (given r (j ∷ p)) j (λ x. at x p)) k →
      Present (label_below c (given r (j ∷ (p ++ (k ∷ [])))) j (λ x. at x (p ++ (k ∷ []))))
  down_below variable r j p k ih b = (trees r).down (j ∷ p) k b
  down_below (leaf v) r j p k ih b = absurd b
  down_below (node f xs) r j p k ih b = down_argument (slice_get xs j) p k ih b

  up_below : (c : Content V) (r j : ℕ) (p : Place) (k : ℕ) →
      ((x : ℕ) → Present (at x (p ++ (k ∷ []))) → Branches (at x p) k) →
      Present (label_below c (given r (j ∷ (p ++ (k ∷ [])))) j (λ x. at x (p ++ (k ∷ [])))) →
      Branches (label_below c (given r (j ∷ p)) j (λ x. at x p)) k
  up_below variable r j p k ih b = (trees r).up (j ∷ p) k b
  up_below (leaf v) r j p k ih b = absurd b
  up_below (node f xs) r j p k ih b = up_argument (slice_get xs j) p k ih b

  downward : (p : Place) (i k : ℕ) → Branches (at i p) k → Present (at i (p ++ (k ∷ [])))
  unfolding reading
  downward [] i k b = down_here (content_at cs (root cs i)) (root cs i) k b
  downward (j ∷ p) i k b = down_below (content_at cs (root cs i)) (root cs i) j p k (λ x. downward p x k) b

  upward : (p : Place) (i k : ℕ) → Present (at i (p ++ (k ∷ []))) → Branches (at i p) k
  unfolding reading
  upward [] i k b = up_here (content_at cs (root cs i)) (root cs i) k b
  upward (j ∷ p) i k b = up_below (content_at cs (root cs i)) (root cs i) j p k (λ x. upward p x k) b

  range_here : (c : Content V) (r : ℕ) → content_at cs r ≡ c → InRange (label_here c (given r []))
  range_here variable r e = (trees r).range []
  range_here (leaf v) r e = tt
  range_here (node f xs) r e = (lower r f xs e).0

  range_argument : (o : Option ℕ) (p : Place) → ((x : ℕ) → InRange (at x p)) → InRange (label_of_argument o (λ x. at x p))
  range_argument None p ih = tt
  range_argument (Some x) p ih = ih x

  range_below : (c : Content V) (r j : ℕ) (p : Place) → ((x : ℕ) → InRange (at x p)) →
      InRange (label_below c (given r (j ∷ p)) j (λ x. at x p))
  range_below variable r j p ih = (trees r).range (j ∷ p)
  range_below (leaf v) r j p ih = tt
  range_below (node f xs) r j p ih = range_argument (slice_get xs j) p ih

  in_range : (p : Place) (i : ℕ) → InRange (at i p)
  unfolding reading
  in_range [] i = range_here (content_at cs (root cs i)) (root cs i) refl
  in_range (j ∷ p) i = range_below (content_at cs (root cs i)) (root cs i) j p (in_range p)

  pub reading_is_tree : (i : ℕ) → IsTree (at i)
  reading_is_tree i = record
      { root = present i; down = λ p k. downward p i k; up = λ p k. upward p i k; range = λ p. in_range p i }
