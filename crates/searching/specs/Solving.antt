-- The executable search: the points that stand, each with its cells, and the count of the tries.
use Rattle.std.specs.Prelude.{ℕ, zero, suc, Bool, true, false, List, [], ◌∷◌, length, Some, None, Option, ◌==◌, nat_lt}
use Rattle.theory.specs.Entries.{Entry}
use Rattle.theory.specs.Records.{Step, Goal, Replay, Replayed, start, step}
use Rattle.theory.specs.Search.{Point, Limits, Outcome, granted, failed, spent, full, short, tries, without}
use Rattle.theory.specs.Search.{onward}
use Rattle.unify.specs.Cells.{Cell}
use Rattle.unify.specs.Unify.{Move}
use Rattle.searching.specs.Trying.{attempt}

-- a point of the search, and the cells with all that its steps have written and joined
pub record Spot (V : Type 0) : Type 0 where
  pub point : Point V
  pub cells : List (Cell V)

-- how a search has ended, and where
pub record Ended (V : Type 0) : Type 0 where
  pub outcome : Outcome
  pub last : Spot V

-- how the search goes on from a point, over those that it can go back to, after so many tries
abbrev pub Goes : Type 0 → Type 0
Goes V = Spot V → List (Spot V) → ℕ → Option (Ended V)

module _ {V : Type 0} where
  -- the search has ended here
  abbrev pub ended : Spot V → Outcome → Option (Ended V)
  ended s o = Some (record { outcome = o; last = s })

  -- that point with those cells
  abbrev pub spot : Point V → List (Cell V) → Spot V
  spot p cells = record { point = p; cells = cells }

module _ {V : Type 0} (same : V → V → Bool) (book : List (Entry V)) (used : ℕ) (lim : Limits) where
  -- the try stands or is taken back
  unfoldable pub by_move : Goes V → Spot V → List (Spot V) → ℕ → Step → List Step → Replay V → Move V →
      Option (Ended V)
  by_move go s below n x xs m (Move.went t) =
      go (spot (onward book s.point x m) t.cells) (spot (without s.point xs) s.cells ∷ below) (suc n)
  by_move go s below n x xs m (Move.clash t) = go (spot (without s.point xs) s.cells) below (suc n)

  -- the instance does not fit into the free cells, or it does
  unfoldable pub by_cells : Goes V → Spot V → List (Spot V) → ℕ → Goal → Step → List Step → Replay V → Bool →
      Option (Ended V)
  by_cells go s below n g x xs m true = ended s (short n)
  by_cells go s below n g x xs m false =
      by_move go s below n x xs m (attempt same book used s.cells s.point.at g x.mode x.number)

  -- what the step comes to; no try breaks a rule
  unfoldable pub by_step : Goes V → Spot V → List (Spot V) → ℕ → Goal → Step → List Step → Replayed V →
      Option (Ended V)
  by_step go s below n g x xs (Replayed.broken rule) = None
  by_step go s below n g x xs (Replayed.went m) = by_cells go s below n g x xs m (nat_lt lim.free m.cells)

  -- a record step is free, or none is
  unfoldable pub by_room : Goes V → Spot V → List (Spot V) → ℕ → Goal → Step → List Step → Bool →
      Option (Ended V)
  by_room go s below n g x xs true = by_step go s below n g x xs (step book s.point.at x)
  by_room go s below n g x xs false = ended s (full n)

  -- the budget is spent, or it is not
  unfoldable pub by_budget : Goes V → Spot V → List (Spot V) → ℕ → Goal → Step → List Step → Bool →
      Option (Ended V)
  by_budget go s below n g x xs true = ended s (spent n)
  by_budget go s below n g x xs false =
      by_room go s below n g x xs (nat_lt (length s.point.steps) lim.room)

  -- no try is left: the latest step is taken back, where there is one
  unfoldable pub by_below : Goes V → Spot V → ℕ → List (Spot V) → Option (Ended V)
  by_below go s n [] = ended s (failed n)
  by_below go s n (q ∷ qs) = go q qs n

  -- the tries that are left of the goal
  unfoldable pub by_left : Goes V → Spot V → List (Spot V) → ℕ → Goal → List Step → Option (Ended V)
  by_left go s below n g [] = by_below go s n below
  by_left go s below n g (x ∷ xs) = by_budget go s below n g x xs (n == lim.budget)

  -- the goals that are pending
  unfoldable pub by_pending : Goes V → Spot V → List (Spot V) → ℕ → List Goal → Option (Ended V)
  by_pending go s below n [] = ended s (granted n s.point.steps)
  by_pending go s below n (g ∷ rest) = by_left go s below n g s.point.left

  -- the search, for so many turns at most; each turn makes a try or takes a step back
  unfoldable pub searches : ℕ → Goes V
  searches zero s below n = None
  searches (suc k) s below n = by_pending (searches k) s below n s.point.at.pending

  -- the point at which the search for a record of the goals begins
  abbrev pub first_point : List ℕ → Point V
  first_point goals = record { at = start goals; steps = []; left = tries book (start {V = V} goals).pending }

  -- the search for a record of the goals
  unfoldable pub solves : ℕ → List (Cell V) → List ℕ → Option (Ended V)
  solves turns cells goals = searches turns (spot (first_point goals) cells) [] 0
