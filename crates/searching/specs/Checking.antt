-- The executable check of a record, over cells.
use Rattle.std.specs.Prelude.{ℕ, suc, Bool, true, false, List, [], ◌∷◌, nat_lt}
use Rattle.theory.specs.Entries.{Entry}
use Rattle.theory.specs.Records.{Step, Goal, Replay, Replayed, start, step}
use Rattle.theory.specs.Check.{Verdict, passed, unlawful, no_cells}
use Rattle.unify.specs.Cells.{Cell}
use Rattle.unify.specs.Unify.{Move}
use Rattle.searching.specs.Trying.{attempt}

-- rule 6: nothing may be pending at the end
abbrev pub at_end : List Goal → ℕ → Verdict
at_end [] i = passed
at_end (g ∷ gs) i = unlawful i 6

-- how the check goes on after a step, over the cells that it leaves
abbrev pub GoesOn : Type 0 → Type 0
GoesOn V = List (Cell V) → Replay V → ℕ → Verdict

module _ {V : Type 0} (same : V → V → Bool) (book : List (Entry V)) (used free : ℕ) where
  -- rule 7: the step leaves a reading, or none
  unfoldable pub check_move : GoesOn V → ℕ → Replay V → Move V → Verdict
  check_move go i m (Move.went t) = go t.cells m (suc i)
  check_move go i m (Move.clash t) = unlawful i 7

  -- the step takes the first pending goal, which exists where it breaks no rule
  unfoldable pub check_goal : GoesOn V → List (Cell V) → Replay V → ℕ → Step → Replay V → List Goal → Verdict
  check_goal go cells r i x m [] = unlawful i 2
  check_goal go cells r i x m (g ∷ rest) =
      check_move go i m (attempt same book used cells r g x.mode x.number)

  -- the instance does not fit into the free cells, or it does
  unfoldable pub check_cells : GoesOn V → List (Cell V) → Replay V → ℕ → Step → Replay V → Bool → Verdict
  check_cells go cells r i x m true = no_cells
  check_cells go cells r i x m false = check_goal go cells r i x m r.pending

  -- the step breaks a rule by its form, or it does not
  unfoldable pub check_step : GoesOn V → List (Cell V) → Replay V → ℕ → Step → Replayed V → Verdict
  check_step go cells r i x (Replayed.broken rule) = unlawful i rule
  check_step go cells r i x (Replayed.went m) = check_cells go cells r i x m (nat_lt free m.cells)

  -- the check of the steps from the i-th on
  unfoldable pub checks_from : List Step → GoesOn V
  checks_from [] cells r i = at_end r.pending i
  checks_from (x ∷ xs) cells r i = check_step (checks_from xs) cells r i x (step book r x)

  -- the check of a record
  unfoldable pub checks : List (Cell V) → List ℕ → List Step → Verdict
  checks cells goals steps = checks_from steps cells (start goals) 0
