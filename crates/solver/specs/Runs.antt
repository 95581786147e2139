-- A whole search, from its beginning to its end.
use Rattle.std.specs.Prelude.{◌≡◌, ℕ, ◌≤◌, Bool, List, length, take, None}
use Rattle.theory.specs.Entries.{Entry}
use Rattle.unify.specs.Cells as C
use Rattle.searching.specs.Answering.{left_by}
use Rattle.cells.specs.declared.cell.Cell.{Cell}
use Rattle.cells.specs.Cells.{cells_of, WellFormed}
use Rattle.frames.specs.declared.frame.Frame.{Frame}
use Rattle.frames.specs.Goals.{NextGoal}
use Rattle.frames.specs.Points.{EndsAs}
use Rattle.solver.specs.Standing.{Standing}
use Rattle.solver.specs.declared.bounds.Bounds.{Bounds}
use Rattle.solver.specs.declared.ending.Finish.{Finish}
use Rattle.solver.specs.Searching.{Ground, limits_of, outcome_of, frame_steps}

-- no step stands, and the first goal of the list is next
pub record Begun {V : Type 0} (book : List (Entry V)) (goals : List ℕ) (frames : List Frame) (used : ℕ) (at : Standing) : Type 0 where
  pub depth : at.depth ≡ 0
  pub all : at.extent.used ≡ used
  pub trail : at.extent.trail ≡ 0
  pub goal : NextGoal book goals frames None 0 at.goal

module _ {L : Type 0} where
  -- what is asked of the lists that a search is lent
  pub record Ready (goals : List ℕ) (b : Bounds) (cells : List (Cell L)) (work : List ℕ) (frames : List Frame) : Type 0 where
    pub basis : Ground goals b cells work frames
    pub sound : WellFormed (take b.first cells)

  -- the search came to its outcome; a grant leaves the cells that it came to, and all else the cells as they were
  pub record Ran (alike : L → L → Bool) (book : List (Entry L)) (goals : List ℕ) (b : Bounds) (cells₀ : List (C.Cell L))
      (cells cells' : List (Cell L)) (frames' : List Frame) (f : Finish) : Type 0 where
    pub last : List (C.Cell L)
    pub ends : EndsAs alike book goals b.first cells₀ (limits_of b)
        (outcome_of f.ending f.count (frame_steps (take f.depth frames'))) last
    pub left : cells_of (take f.used cells') ≡
        left_by cells₀ last (outcome_of f.ending f.count (frame_steps (take f.depth frames')))
    pub sound : WellFormed (take f.used cells')
    pub used : f.used ≤ b.cells
    pub depth : f.depth ≤ b.steps
    pub as_many : length cells' ≡ length cells
