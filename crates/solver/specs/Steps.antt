-- What a step of any mode does to cells, trail and frames.
use Rattle.std.specs.Prelude.{◌≡◌, ℕ, suc, ◌+◌, ◌<◌, ◌≤◌, Bool, true, false, cond, ◌⊎◌, List, [], length, Some, None, Option, ◌==◌, ◌≢◌}
use Rattle.std.specs.List.{slice_get}
use Rattle.theory.specs.Entries.{Entry, Part}
use Rattle.theory.specs.Records as T
use Rattle.cells.specs.declared.cell.Cell.{Cell}
use Rattle.calls.specs.declared.step.Step.{Step}
use Rattle.attempts.specs.declared.extent.Extent.{Extent}
use Rattle.attempts.specs.Attempts.{parts_at, Tryable, Attempted}
use Rattle.frames.specs.declared.frame.Goal.{Goal}
use Rattle.frames.specs.declared.frame.Frame.{Frame}
use Rattle.frames.specs.Goals.{above, Current, NextGoal}
use Rattle.frames.specs.Levels.{size_of}
use Rattle.solver.specs.Standing.{Standing}

-- the head of an entry, if there is such an entry
abbrev pub head_in : {V : Type 0} → Option (Entry V) → ℕ
head_in None = 0
head_in (Some e) = e.head

-- the cell of the goal that a step took, if there is such a step
abbrev pub goal_cell : Option Frame → ℕ
goal_cell None = 0
goal_cell (Some f) = f.goal.cell

module _ {V : Type 0} (book : List (Entry V)) where
  -- how many new cells a step needs
  abbrev pub size_at : Step → ℕ
  size_at x = cond (x.mode == 2) 0 (size_of (slice_get book x.number))

  -- the cells of its instance; a step that closes a loop makes none
  abbrev pub parts_for : Step → List (Part V)
  parts_for x = cond (x.mode == 2) [] (parts_at book x.number)

  -- the cell with which the goal is equated
  abbrev pub target : List Frame → ℕ → Step → ℕ
  target frames used x =
      cond (x.mode == 2) (goal_cell (slice_get frames x.number)) (used + head_in (slice_get book x.number))

  -- the step closes a loop with a step that stands, or names an entry
  abbrev pub Formed : List Frame → ℕ → Step → Type 0
  Formed frames used x =
      ((x.mode ≡ 2) × (f : Frame) × (slice_get frames x.number ≡ Some f) × (f.goal.cell < used)) ⊎
      ((x.mode ≢ 2) × (e : Entry V) × (slice_get book x.number ≡ Some e))

module _ {L : Type 0} (book : List (Entry L)) (cells : List (Cell L)) (work : List ℕ) (frames : List Frame) where
  -- what is asked of a step that is to be tried
  pub record TryableStep (x : Extent) (goal : ℕ) (step : Step) : Type 0 where
    pub formed : Formed book frames x.used step
    pub tryable : Tryable cells work x (size_at book step) goal

-- what trying a step comes to
abbrev pub TriedStep : {L : Type 0} → (L → L → Bool) → List (Entry L) → List Frame → ℕ → Step → Bool →
    List (Cell L) → List ℕ → Extent → List (Cell L) → List ℕ → Extent → Type 0
TriedStep alike book frames goal step r cells work x cells' work' x' =
    Attempted alike (parts_for book step) goal (target book frames x.used step) r cells work x cells' work' x'

-- what is asked of a step that is to be taken: the goal is the next one, and there is room for a frame
pub record Takeable {L : Type 0} (book : List (Entry L)) (goals : List ℕ) (cells : List (Cell L)) (work : List ℕ)
    (frames : List Frame) (at : Standing) (goal : Goal) (step : Step) : Type 0 where
  pub pending : List T.Goal
  pub current : Current book goals frames goal pending
  pub lower : above goal.parent ≤ at.depth
  pub few_goals : length goals ≤ 8
  pub room : at.depth < length frames
  pub few_steps : at.depth < 4096
  pub try : TryableStep book cells work frames at.extent goal.cell step
  pub trail : at.extent.trail ≤ 2048

-- the frame of a step
abbrev pub frame_of : Goal → Step → Extent → Frame
frame_of goal step x = record { goal = goal; step = step; used = x.used; trail = x.trail }

-- the step stands with its frame, and the next goal is found; or all stays as it is
abbrev pub Taken : {L : Type 0} → List (Entry L) → List ℕ → Goal → Step → Bool → List Frame → Standing →
    List Frame → Standing → Type 0
Taken book goals goal step true frames at frames' at' =
    ((s : ℕ) → s < at.depth → slice_get frames' s ≡ slice_get frames s) ×
    (slice_get frames' at.depth ≡ Some (frame_of goal step at.extent)) × (at'.depth ≡ suc at.depth) ×
    NextGoal book goals frames' (Some at.depth) 0 at'.goal
Taken book goals goal step false frames at frames' at' = (frames' ≡ frames) × (at' ≡ at)

-- what taking a step comes to
pub record Stepped {L : Type 0} (alike : L → L → Bool) (book : List (Entry L)) (goals : List ℕ) (goal : Goal) (step : Step)
    (r : Bool) (cells : List (Cell L)) (work : List ℕ) (frames : List Frame) (at : Standing)
    (cells' : List (Cell L)) (work' : List ℕ) (frames' : List Frame) (at' : Standing) : Type 0 where
  pub tried : TriedStep alike book frames goal.cell step r cells work at.extent cells' work' at'.extent
  pub taken : Taken book goals goal step r frames at frames' at'
  pub as_long : length frames' ≡ length frames
