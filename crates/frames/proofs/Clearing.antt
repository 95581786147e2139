-- Taking joins back, over a part of the cells and trail by trail.
use Rattle.std.proofs.Common.{◌≡◌, ℕ, zero, suc, List, [], ◌∷◌, ◌++◌, length, take, None, Option, refl, ap, ◌∙◌}
use Rattle.unify.specs.Cells.{Cell, rejoin}
use Rattle.unify.specs.Unify.{clear}
use Rattle.unify.proofs.CellLaws.{length_rejoin}

module _ {V : Type 0} where
  pub clear_append : (a b : List ℕ) (cells : List (Cell V)) → clear (a ++ b) cells ≡ clear a (clear b cells)
  unfolding clear
  clear_append [] b cells = refl
  clear_append (i ∷ a) b cells = ap (λ c. rejoin c i None) (clear_append a b cells)

  pub take_rejoin : (u : ℕ) (cells : List (Cell V)) (i : ℕ) (t : Option ℕ) → take u (rejoin cells i t) ≡ rejoin (take u cells) i t
  unfolding rejoin
  take_rejoin zero [] i t = refl
  take_rejoin zero (c ∷ cells) zero t = refl
  take_rejoin zero (c ∷ cells) (suc i) t = refl
  take_rejoin (suc u) [] i t = refl
  take_rejoin (suc u) (c ∷ cells) zero t = refl
  take_rejoin (suc u) (c ∷ cells) (suc i) t = ap (λ l. c ∷ l) (take_rejoin u cells i t)

  pub take_clear : (u : ℕ) (trail : List ℕ) (cells : List (Cell V)) → take u (clear trail cells) ≡ clear trail (take u cells)
  unfolding clear
  take_clear u [] cells = refl
  take_clear u (i ∷ trail) cells =
      take_rejoin u (clear trail cells) i None ∙ ap (λ c. rejoin c i None) (take_clear u trail cells)

  pub length_clear : (trail : List ℕ) (cells : List (Cell V)) → length (clear trail cells) ≡ length cells
  unfolding clear
  length_clear [] cells = refl
  length_clear (i ∷ trail) cells = length_rejoin (clear trail cells) i None ∙ length_clear trail cells
