-- The reading of solved cells meets what they state, and has the given trees at the open roots.
use Rattle.std.proofs.Common.{◌≡◌, ℕ, ◌+◌, List, [], ◌∷◌, length, Some, sym, refl, ap, ◌∙◌, zero-add}
use Rattle.std.specs.List.{slice_get}
use Rattle.theory.specs.Trees.{Tree, Label, Same, IsTree, Place}
use Rattle.theory.specs.Equations.{Solves}
use Rattle.unify.specs.Cells.{Content, variable, leaf, node, Cell, content_at, root}
use Rattle.unify.specs.Solved.{Matches, SameRoots, Solved, stated}
use Rattle.unify.specs.Readings.{reading, label_here, label_below, label_of_argument, OpenRoot}
use Rattle.unify.proofs.Places.{children_from}
use Rattle.unify.proofs.Matching.{root_matches, roots_at, roots_length}
use Rattle.unify.proofs.CellReads.{MeetsContent, Reads, reads_meets}
use Rattle.unify.proofs.Roots.{root_none, root_some}
use Rattle.unify.proofs.ReadingTrees.{reading_is_tree}

module _ {V : Type 0} (cs : List (Cell V)) (given : ℕ → Tree V) where
  abbrev at : ℕ → Tree V
  at i = reading cs given i

  -- cells with one root have one tree
  pub one_root : (i j : ℕ) → root cs i ≡ root cs j → Same (at i) (at j)
  unfolding reading
  one_root i j e [] = ap (λ r. label_here (content_at cs r) (given r [])) e
  one_root i j e (k ∷ p) = ap (λ r. label_below (content_at cs r) (given r (k ∷ p)) k (λ x. reading cs given x p)) e

  pub label_is : (i : ℕ) (d : Content V) → content_at cs (root cs i) ≡ d → at i [] ≡ label_here d (given (root cs i) [])
  unfolding reading
  label_is i d e = ap (λ c. label_here c (given (root cs i) [])) e

  below_is : (i k : ℕ) (p : Place) (d : Content V) → content_at cs (root cs i) ≡ d →
      at i (k ∷ p) ≡ label_below d (given (root cs i) (k ∷ p)) k (λ x. at x p)
  unfolding reading
  below_is i k p d e = ap (λ c. label_below c (given (root cs i) (k ∷ p)) k (λ x. reading cs given x p)) e

  meets_content : (i : ℕ) (c d : Content V) → Matches (SameRoots cs) c d → content_at cs (root cs i) ≡ d → MeetsContent at i c
  meets_content i variable d m e = tt
  meets_content i (leaf v) variable m e = absurd m
  meets_content i (leaf v) (leaf w) m e = label_is i (leaf w) e ∙ ap (λ u. Some (Label.leaf u)) (sym m)
  meets_content i (leaf v) (node g ys) m e = absurd m
  meets_content i (node f xs) variable m e = absurd m
  meets_content i (node f xs) (leaf w) m e = absurd m
  meets_content i (node f xs) (node g ys) m e = (
    label_is i (node g ys) e ∙ (ap (λ h. Some (Label.node h (length ys))) (sym m.0)
        ∙ ap (λ n. Some (Label.node f n)) (sym (roots_length cs xs ys m.1))),
    children_from at (at i) 0 xs (λ k x q p. child k x p (roots_at cs xs ys m.1 k x q)),
  )
    where
      child : (k x : ℕ) (p : Place) → (y : ℕ) × (slice_get ys k ≡ Some y) × (root cs x ≡ root cs y) → at i ((0 + k) ∷ p) ≡ at x p
      child k x p z = ap (λ n. at i (n ∷ p)) (zero-add k) ∙ (below_is i k p (node g ys) e
          ∙ (ap (λ o. label_of_argument o (λ x. at x p)) z.1 ∙ sym (one_root x z.0 z.2 p)))

  pub reading_reads : Solved cs → Reads cs at
  reading_reads ok = record {
    contents = λ i. meets_content i (content_at cs i) (content_at cs (root cs i)) (root_matches cs ok i) refl;
    joins = λ i j e. one_root i j (root_some cs ok.descends i j e);
  }

  pub reading_solves : Solved cs → ((i : ℕ) → IsTree (given i)) → Solves (stated cs) at
  reading_solves ok trees = record
      { trees = reading_is_tree cs ok.lower given trees; meets = reads_meets at cs (reading_reads ok) }

  -- at an open root stands the given tree
  pub at_open : (i : ℕ) → OpenRoot cs i → Same (at i) (given i)
  at_open i h [] = label_is i variable (ap (content_at cs) (root_none cs i h.1) ∙ h.0) ∙ ap (λ r. given r []) (root_none cs i h.1)
  at_open i h (k ∷ p) = below_is i k p variable (ap (content_at cs) (root_none cs i h.1) ∙ h.0)
      ∙ ap (λ r. given r (k ∷ p)) (root_none cs i h.1)
