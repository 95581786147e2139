-- The state of a search on the lists that it was lent, and what comes of it.
use Rattle.std.specs.Prelude.{◌≡◌, ℕ, ◌+◌, ◌-◌, ◌*◌, ◌<◌, ◌≤◌, Bool, List, map, length, take, Some, None, Ok, Err, Option, Result}
use Rattle.std.specs.List.{AllByRecursion}
use Rattle.theory.specs.Entries.{Entry}
use Rattle.theory.specs.Records.{Replay}
use Rattle.theory.specs.Records as T
use Rattle.theory.specs.Search.{Limits, Outcome, granted, failed, spent, full, short}
use Rattle.unify.specs.Cells as C
use Rattle.unify.specs.Unify.{clear}
use Rattle.cells.specs.declared.cell.Cell.{Cell}
use Rattle.cells.specs.Cells.{cells_of, WellFormed}
use Rattle.calls.specs.declared.step.Step.{Step}
use Rattle.calls.specs.Steps.{step_of}
use Rattle.attempts.specs.declared.extent.Extent.{Extent}
use Rattle.frames.specs.declared.frame.Goal.{Goal}
use Rattle.frames.specs.declared.frame.Frame.{Frame}
use Rattle.frames.specs.declared.frame.Cursor.{Cursor}
use Rattle.frames.specs.Tries.{first_cursor, NextTry}
use Rattle.frames.specs.Levels.{Level}
use Rattle.frames.specs.Points.{Searching, EndsAs}
use Rattle.solver.specs.Standing.{Moment}
use Rattle.solver.specs.declared.bounds.Bounds.{Bounds}
use Rattle.solver.specs.declared.ending.Ending.{Ending}
use Rattle.solver.specs.declared.ending.Ending.TheVariants.{Failed, Spent, Full, Short}

-- all tries of a goal, if there is one
abbrev pub FirstTries : Option Goal → Cursor → Type 0
FirstTries goal c = (y : Goal) → goal ≡ Some y → c ≡ first_cursor y

-- the limits of a search, as the definitions have them
abbrev pub limits_of : Bounds → Limits
limits_of b = record { budget = b.budget; room = b.steps; free = b.cells - b.first }

-- the steps that stand, as a record
abbrev pub frame_steps : List Frame → List T.Step
frame_steps frames = map (λ f. step_of f.step) frames

-- the outcome of a search, by how it ends, its count, and the steps that stand
abbrev pub outcome_of : Result (Unit {0}) Ending → ℕ → List T.Step → Outcome
outcome_of (Ok u) n steps = granted n steps
outcome_of (Err Failed) n steps = failed n
outcome_of (Err Spent) n steps = spent n
outcome_of (Err Full) n steps = full n
outcome_of (Err Short) n steps = short n

-- how many turns a search has left at most: two for each try that it may make, and one for each step that stands
abbrev pub turns_left : Bounds → Moment → ℕ
turns_left b m = 2 * (b.budget - m.count) + m.at.depth

module _ {L : Type 0} where
  -- the cells in use
  abbrev pub in_use : List (Cell L) → Extent → List (C.Cell L)
  in_use cells x = cells_of (take x.used cells)

  -- the first so many of them, with all joins of the trail taken back
  abbrev pub origin : ℕ → List (Cell L) → List ℕ → Extent → List (C.Cell L)
  origin first cells work x = take first (clear (take x.trail work) (in_use cells x))

  -- what holds all along: few goals, all in use at the beginning, and lists that are long enough
  pub record Ground (goals : List ℕ) (b : Bounds) (cells : List (Cell L)) (work : List ℕ) (frames : List Frame) : Type 0 where
    pub few_goals : length goals ≤ 8
    pub low : AllByRecursion (λ g. g < b.first) goals
    pub begin : b.first ≤ b.cells
    pub fits : b.cells ≤ length cells
    pub few : b.cells ≤ 2048
    pub long : 2 * b.cells ≤ length work
    pub framed : b.steps ≤ length frames
    pub short : b.steps ≤ 4096

  -- the cells and the trail are filled so far
  pub record Filled (b : Bounds) (cells : List (Cell L)) (work : List ℕ) (x : Extent) : Type 0 where
    pub sound : WellFormed (take x.used cells)
    pub used : x.used ≤ b.cells
    pub room : x.trail ≤ length work

  module _ (alike : L → L → Bool) (book : List (Entry L)) (goals : List ℕ) (b : Bounds) (cells₀ : List (C.Cell L))
      (cells : List (Cell L)) (work : List ℕ) (frames : List Frame) (m : Moment) where
    -- the lists are those of a point of the search that began over those cells
    pub record Running : Type 0 where
      pub basis : Ground goals b cells work frames
      pub filled : Filled b cells work m.at.extent
      pub depth : m.at.depth ≤ b.steps
      pub count : m.count ≤ b.budget
      pub searching : Searching alike book goals b.first cells₀ (limits_of b) frames m.at.depth m.at.goal
          m.cursor m.count (in_use cells m.at.extent) (take m.at.extent.trail work)

    -- the search has come to its end
    pub record Finished (e : Result (Unit {0}) Ending) : Type 0 where
      pub basis : Ground goals b cells work frames
      pub filled : Filled b cells work m.at.extent
      pub depth : m.at.depth ≤ b.steps
      pub ends : EndsAs alike book goals b.first cells₀ (limits_of b)
          (outcome_of e m.count (frame_steps (take m.at.depth frames))) (in_use cells m.at.extent)
      pub replay : Replay L
      pub steps : List T.Step
      pub level : Level book goals b.first cells₀ frames m.at.depth replay steps
          (in_use cells m.at.extent) (take m.at.extent.trail work)

  -- the search goes on after a turn, or comes to its end
  abbrev pub Turned : (L → L → Bool) → List (Entry L) → List ℕ → Bounds → List (C.Cell L) → Result (Unit {0}) Ending → Moment →
      List (Cell L) → List ℕ → List Frame → Moment → Type 0
  Turned alike book goals b cells₀ (Ok u) m cells' work' frames' m' =
      Running alike book goals b cells₀ cells' work' frames' m' × (turns_left b m' < turns_left b m)
  Turned alike book goals b cells₀ (Err e) m cells' work' frames' m' =
      Finished alike book goals b cells₀ cells' work' frames' m' (Err e)

  -- the goal is to be taken, and this is its next try, if any is left
  pub record Facing (book : List (Entry L)) (m : Moment) (goal : Goal) (x : Option Step) : Type 0 where
    pub taken : m.at.goal ≡ Some goal
    pub try : NextTry book goal.inner m.cursor x

  -- the goal is to be taken, and no try of it is left
  abbrev pub Exhausted : List (Entry L) → Moment → Type 0
  Exhausted book m = (goal : Goal) × Facing book m goal None
