-- The next cell of a slate.
use Rattle.std.proofs.Common.{◌≡◌, ℕ, ◌+◌, ◌<◌, List, [], ◌∷◌, length, take, set, None, sym, refl, ap, ◌∙◌, subst, arith, length-take}
use mathlib.Core.HLevel.{×_prop}
use mathlib.Core.List.{map-append}
use mathlib.Core.Logic.{∥∥₁_elim}
use native.Mathlib.Bridge.{le_prop}
use lib.ListN.{length-map}
use Rattle.std.proofs.lemmas.List.{take_more_set}
use Rattle.std.proofs.ByRecursion.{All-push}
use Rattle.cells.specs.declared.cell.Content.{Content}
use Rattle.cells.specs.declared.cell.Content.TheVariants.{Open, Leaf, Node}
use Rattle.cells.specs.declared.cell.Cell.{Cell}
use Rattle.cells.specs.Cells.{cell_of, cells_of, content_of, Counted, AllCounted, WellFormed}
use Rattle.unify.specs.Solved.{Solved}
use Rattle.unify.specs.Writing.{write, Writable}
use Rattle.unify.proofs.OneProof.{solved_prop}
use Rattle.unify.proofs.Written.{writing, none_solved}

-- no cells are sound
pub none_sound : {L : Type 0} → ∥ WellFormed {L = L} [] ∥₁
none_sound = ∣ record { solved = none_solved; counted = tt } ∣₁

module _ {L : Type 0} where
  -- a new cell
  abbrev pub fresh : Content L → Cell L
  fresh c = record { content = c; joined = None }

  counted_prop : (c : Content L) → IsProp (Counted c)
  counted_prop Open = λ x y. refl
  counted_prop (Leaf v) = λ x y. refl
  counted_prop (Node f xs n) = le_prop

  all_counted_prop : (cs : List (Cell L)) → IsProp (AllCounted cs)
  all_counted_prop [] = λ x y. refl
  all_counted_prop (c ∷ cs) = ×_prop (counted_prop c.content) (all_counted_prop cs)

  -- soundness has one proof at most, so it comes out of a truncation
  pub sound_out : IsSet L → (cs : List (Cell L)) → ∥ WellFormed cs ∥₁ → WellFormed cs
  sound_out set cs t = ∥∥₁_elim t prop (λ s. s)
    where
      prop : IsProp (WellFormed cs)
      prop u v = λ i. record {
        solved = solved_prop set (cells_of cs) u.solved v.solved i;
        counted = all_counted_prop cs u.counted v.counted i;
      }

  module _ (xs : List (Cell L)) (n : ℕ) (c : Content L) (h : n < length xs) where
    pub next_cells : cells_of (take (n + 1) (set xs n (fresh c))) ≡ write (cells_of (take n xs)) (content_of c)
    unfolding write
    next_cells = ap cells_of (take_more_set xs n (fresh c) h) ∙ map-append cell_of (take n xs) (fresh c ∷ [])

    pub next_sound : n < 2048 → WellFormed (take n xs) → Counted c → Writable (cells_of (take n xs)) (content_of c) →
        WellFormed (take (n + 1) (set xs n (fresh c)))
    next_sound few s k w = record {
      solved = subst Solved (sym next_cells) ((writing L).one_more (cells_of (take n xs)) s.solved small
          (content_of c) w).solved;
      counted = subst AllCounted (sym (take_more_set xs n (fresh c) h)) (All-push (λ d. Counted d.content)
          (take n xs) (fresh c) s.counted k);
    }
      where
        small : length (cells_of (take n xs)) < 2048
        small = omega (arith, length-map (take n xs) cell_of, length-take n xs)
