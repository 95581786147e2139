-- How far a replay has come on the cells, and the points that a search can go back to.
use Rattle.std.specs.Prelude.{◌≡◌, ℕ, suc, ◌+◌, ◌<◌, ◌≤◌, cond, List, [], ◌∷◌, length, take, drop, Some, None, Option, ◌==◌, slice_index}
use Rattle.std.specs.List.{slice_get, AllByRecursion}
use Rattle.theory.specs.Entries.{Entry}
use Rattle.theory.specs.Records.{Term, Replay}
use Rattle.theory.specs.Records as T
use Rattle.unify.specs.Cells.{Cell, unjoined}
use Rattle.unify.specs.Solved.{Solved}
use Rattle.unify.specs.Unify.{clear}
use Rattle.searching.specs.Solving.{Spot}
use Rattle.searching.proofs.Scopes.{Within}
use Rattle.calls.specs.Steps.{step_of}
use Rattle.frames.specs.declared.frame.Goal.{Goal}
use Rattle.frames.specs.declared.frame.Frame.{Frame}
use Rattle.frames.specs.declared.frame.Cursor.{Cursor}
use Rattle.frames.specs.Goals.{above, lies_at, Link, Current}
use Rattle.frames.specs.Tries.{cursor_after, Named, Leftover}

-- how many cells an entry has, if there is such an entry
abbrev pub size_of : {V : Type 0} → Option (Entry V) → ℕ
size_of None = 0
size_of (Some e) = length e.parts

-- how many cells were in use after a step
abbrev pub end_of : {V : Type 0} → List (Entry V) → Frame → ℕ
end_of book f = cond (f.step.mode == 2) f.used (f.used + size_of (slice_get book f.step.number))

module _ {V : Type 0} (book : List (Entry V)) (goals : List ℕ) (used₀ : ℕ) (cells₀ : List (Cell V))
    (frames : List Frame) where
  -- what a frame tells of its step
  pub record Tells (r : Replay V) (steps : List T.Step) (size : ℕ) (n s : ℕ) (f : Frame) : Type 0 where
    pub link : Link s f
    pub base : used₀ + slice_index r.offsets s ≡ f.used
    pub term : Term
    pub taken : slice_get r.taken s ≡ Some term
    pub within : Within n term
    pub lies : lies_at frames term ≡ f.goal.cell
    pub step : slice_get steps s ≡ Some (step_of f.step)
    pub end : end_of book f ≤ size

  -- n steps stand, each with its frame; the cells have what they have written and joined, and the trail tells what to
  -- take back
  pub record Level (n : ℕ) (r : Replay V) (steps : List T.Step) (cells : List (Cell V)) (trail : List ℕ) : Type 0 where
    pub taken : length r.taken ≡ n
    pub offsets : length r.offsets ≡ n
    pub recorded : length steps ≡ n
    pub framed : n ≤ length frames
    pub tells : (s : ℕ) (f : Frame) → slice_get frames s ≡ Some f → s < n → Tells r steps (length cells) n s f
    pub number : length cells ≡ used₀ + r.cells
    pub solved : Solved cells
    pub room : unjoined cells + length trail ≤ length cells
    pub inside : AllByRecursion (λ i. i < length cells) trail
    pub undone : take used₀ (clear trail cells) ≡ cells₀

  -- the point below the m-th step, where its frame tells how to go back to it
  pub record Under (m : ℕ) (f : Frame) (q : Spot V) (cells : List (Cell V)) (trail : List ℕ) : Type 0 where
    pub level : Level m q.point.at q.point.steps q.cells (take f.trail trail)
    pub goal : Current book goals frames f.goal q.point.at.pending
    pub lower : above f.goal.parent ≤ m
    pub left : Leftover book frames m f.goal.inner goal.chain (cursor_after frames f.step) q.point.left
    pub named : Named m f.step
    pub used : length q.cells ≡ f.used
    pub joins : f.trail ≤ length trail
    pub are : q.cells ≡ take f.used (clear (drop f.trail trail) cells)

  -- the points below n steps, the latest first
  abbrev pub Stacked : ℕ → List (Cell V) → List ℕ → List (Spot V) → Type 0
  Stacked n cells trail [] = n ≡ 0
  Stacked n cells trail (q ∷ qs) =
      (m : ℕ) × (f : Frame) × (n ≡ suc m) × (slice_get frames m ≡ Some f) × Under m f q cells trail ×
      Stacked m q.cells (take f.trail trail) qs

  -- a goal is to be taken, with these tries left; or none is pending
  abbrev pub Facing : ℕ → Option Goal → Cursor → List T.Goal → List T.Step → Type 0
  Facing n None c pending left = pending ≡ []
  Facing n (Some goal) c pending left =
      (u : Current book goals frames goal pending) × (above goal.parent ≤ n) ×
      Leftover book frames n goal.inner u.chain c left

  -- the frames, the cells and the trail are those of a point of the search and of those below it
  pub record Represents (n : ℕ) (goal : Option Goal) (c : Cursor) (cells : List (Cell V)) (trail : List ℕ)
      (s : Spot V) (below : List (Spot V)) : Type 0 where
    pub lying : s.cells ≡ cells
    pub level : Level n s.point.at s.point.steps cells trail
    pub facing : Facing n goal c s.point.at.pending s.point.left
    pub stack : Stacked n cells trail below
