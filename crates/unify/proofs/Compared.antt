-- The comparison is right: what it calls equal, and what it tells apart.
use Rattle.std.proofs.Common.{◌≡◌, ℕ, ◌<◌, Bool, false, List, length, None, sym, refl, ◌∙◌, subst}
use Rattle.theory.specs.Trees.{Tree, Same, IsTree}
use Rattle.theory.specs.Equations.{Solves}
use Rattle.unify.specs.Cells.{Content, variable, leaf, node, Cell, content_at, joined_at}
use Rattle.unify.specs.Solved.{Solved, stated}
use Rattle.unify.specs.Readings.{reading}
use Rattle.unify.specs.Unify.{State, Move, went, clash, fits, join, compare}
use Rattle.unify.specs.Theorems.{Decides, Compared}
use Rattle.unify.proofs.Places.{none_some}
use Rattle.unify.proofs.Roots.{IsVariable}
use Rattle.unify.proofs.CellReads.{Reads, meets_reads}
use Rattle.unify.proofs.Fitting.{unfit_labels}
use Rattle.unify.proofs.Invariant.{Inv, Follows}
use Rattle.unify.proofs.Meeting.{Good, Joined, join_good}
use Rattle.unify.proofs.ReadingMeets.{reading_solves, reading_reads}
use Rattle.unify.proofs.Unified.{solved_again}
use Rattle.unify.proofs.Bisimilar.{bisimilar, none_since}
use Rattle.unify.proofs.Constants.{constant, constant_is_tree}
use Rattle.unify.proofs.Apart.{spot, spot_trees, unlike, unlike_small, told_apart}

module _ {V : Type 0} (same : V → V → Bool) (law : Decides same) (old : List (Cell V)) (ok : Solved old) (a b : ℕ)
    (ha : a < length old) (hb : b < length old) where
  abbrev Differ : Type 0
  Differ = (ρ : ℕ → Tree V) × Solves (stated old) ρ × (Same (ρ a) (ρ b) → ⊥)

  module _ (r t : ℕ) (r_free : joined_at old r ≡ None) (t_free : joined_at old t ≡ None) (apart : r ≡ t → ⊥)
      (sound : Follows false old a b r t) where
    -- a choice of trees whose reading tells the two roots apart
    by : (given : ℕ → Tree V) → ((i : ℕ) → IsTree (given i)) → (Same (reading old given r) (reading old given t) → ⊥) → Differ
    by given trees h =
        (reading old given, reading_solves old given ok trees, λ s. h (sound (reading old given) (reading_reads old given ok) s))

    first_open : content_at old r ≡ variable → Differ
    first_open e =
        by (spot r (unlike (content_at old t))) (spot_trees r (unlike (content_at old t)) (unlike_small (content_at old t)))
        (λ s. told_apart old ok r t (e, r_free) t_free (λ q. apart (sym q)) (content_at old t) refl s)

    second_open : content_at old t ≡ variable → Differ
    second_open e =
        by (spot t (unlike (content_at old r))) (spot_trees t (unlike (content_at old r)) (unlike_small (content_at old r)))
        (λ s. told_apart old ok t r (e, t_free) r_free apart (content_at old r) refl (λ p. sym (s p)))

    both_written : (IsVariable (content_at old r) → ⊥) → (IsVariable (content_at old t) → ⊥) →
        fits same false (content_at old r) (content_at old t) ≡ false → Differ
    both_written p q e =
        let given : ℕ → Tree V = λ i. constant 0 in
        let z : Reads old (reading old given) = reading_reads old given ok in
        by given (λ i. constant_is_tree 0 (unlike_small {V = V} variable))
        (λ s. unfit_labels same false law (reading old given) r t (content_at old r) (content_at old t) p q e (z.contents r) (z.contents t) s)

    differing : fits same false (content_at old r) (content_at old t) ≡ false →
        (c d : Content V) → content_at old r ≡ c → content_at old t ≡ d → Differ
    differing e variable d p q = first_open p
    differing e (leaf v) variable p q = second_open q
    differing e (leaf v) (leaf w) p q = both_written (λ x. subst IsVariable p x) (λ x. subst IsVariable q x) e
    differing e (leaf v) (node g ys) p q = both_written (λ x. subst IsVariable p x) (λ x. subst IsVariable q x) e
    differing e (node f xs) variable p q = second_open q
    differing e (node f xs) (leaf w) p q = both_written (λ x. subst IsVariable p x) (λ x. subst IsVariable q x) e
    differing e (node f xs) (node g ys) p q = both_written (λ x. subst IsVariable p x) (λ x. subst IsVariable q x) e

  tells_apart : (s : State V) → Inv false old a b s → (r t : ℕ) → joined_at s.cells r ≡ None → joined_at s.cells t ≡ None → (r ≡ t → ⊥) →
      fits same false (content_at old r) (content_at old t) ≡ false → Follows false old a b r t → Differ
  tells_apart s inv r t p q apart e f = differing r t (was r p) (was t q) apart f e (content_at old r) (content_at old t) refl refl
    where
      was : (i : ℕ) → joined_at s.cells i ≡ None → joined_at old i ≡ None
      was i h = none_since (joined_at old i) (λ j z. none_some (sym h ∙ inv.kept i j z))

  right : (m : Move V) → Good same false law old ok a b Differ tells_apart (Joined same false law old ok a b Differ tells_apart) m → Compared old a b m
  right (went t) g = record {
    undone = g.inv.undone;
    entails = λ ρ z p. bisimilar old t.cells ok (solved_again false old ok a b t g.inv g.done) g.inv.kept g.inv.contents
        (g.inv.written refl) ρ z.trees (meets_reads ρ old z.meets) p a b g.one;
  }
  right (clash t) g = record { undone = g.1; ρ = g.0.0; solves = g.0.1; apart = g.0.2 }

  pub compare_right : Compared old a b (compare same old a b)
  unfolding compare
  compare_right = right (join same false old a b) (join_good same false law old ok a b Differ tells_apart ha hb)
