-- What is read from a slate.
use Rattle.std.proofs.Common.{◌≡◌, ℕ, zero, suc, ◌<◌, ◌≤◌, Bool, true, false, List, [], ◌∷◌, length, get_or, take, Some, Ok, vec_items, refl, ap, ◌∙◌, inl, inr, le_of_suc-le-suc, not-suc-le-zero, arith, length-take}
use Rattle.std.specs.List.{slice_get}
use Rattle.unify.specs.Cells.{root, joined_at, content_at}
use Rattle.unify.proofs.Roots.{root_ends}
use Rattle.unify.proofs.Meant.{meaning}
use Rattle.cells.specs.declared.cell.Cell.{Cell}
use Rattle.slate.specs.declared.slate.Slate.{Slate}
use Rattle.cells.specs.Cells.{cell_of, cells_of, WellFormed}
use Rattle.cells.specs.Loops.{TellsNode}
use Rattle.slate.specs.Slates.{in_use, Reads, Leads, TellsAtom}
use Rattle.cells.proofs.Read.{counted_read}
use Rattle.slate.proofs.Next.{sound_out}
use Rattle.slate.proofs.Standing.{means_known}

module _ {L : Type 0} where
  nth_read : (xs : List (Cell L)) (i : ℕ) (c : Cell L) → i < length xs → slice_get (cells_of xs) i ≡ Some (cell_of (get_or xs i c))
  nth_read [] i c h = absurd (not-suc-le-zero h)
  nth_read (d ∷ xs) zero c h = refl
  nth_read (d ∷ xs) (suc i) c h = nth_read xs i c (le_of_suc-le-suc h)

  module _ (set : IsSet L) (s : Slate L) where
    -- the cells in use are sound
    pub sound_of : WellFormed (take s.used (vec_items s.cells))
    sound_of = sound_out set (take s.used (vec_items s.cells)) s.sound

    -- as many were supplied
    pub part_of : s.used ≤ length (vec_items s.cells)
    part_of = omega (arith, s.within, s.cells.ok.0)

    module _ (i : ℕ) (h : i < s.used) where
      pub reads : (c : Cell L) → Reads s i (Ok (get_or (take s.used (vec_items s.cells)) i c))
      reads c =
          let cells = take s.used (vec_items s.cells) in
          let inside : i < length cells = omega (arith, length-take s.used (vec_items s.cells), part_of) in
          (nth_read cells i c inside, counted_read cells i c inside sound_of.counted)

      pub leads : (r : ℕ) → r ≡ root (in_use s) i → r < length (take s.used (vec_items s.cells)) → Leads s i (Ok r)
      leads r e k = (h, omega (arith, length-take s.used (vec_items s.cells), k), e, ap (joined_at (in_use s)) e ∙ root_ends (in_use s) sound_of.solved.descends i)

      pub tells : (b : Bool) → TellsNode (content_at (in_use s) (root (in_use s) i)) b → TellsAtom s i (Ok b)
      tells true t = (
        h,
        λ k st. inl (
          ((meaning L).atoms (in_use s) k.equations sound_of.solved
              (means_known (in_use s) k st) i).0 t,
          refl,
        ),
      )
      tells false t = (
        h,
        λ k st. inr (
          (λ a. t (((meaning L).atoms (in_use s) k.equations sound_of.solved
              (means_known (in_use s) k st) i).1 a)),
          refl,
        ),
      )
