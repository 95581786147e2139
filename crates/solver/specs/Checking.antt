-- Replaying a record on the lists that were lent, and the answer of check.
use Rattle.std.specs.Prelude.{◌≡◌, ℕ, ◌-◌, ◌≤◌, Bool, List, [], length, take, Some, None, Ok, Err, Option, Result}
use Rattle.theory.specs.Entries.{Entry}
use Rattle.theory.specs.Records.{Replay, Replayed, step}
use Rattle.theory.specs.Records as T
use Rattle.theory.specs.Check.{Verdict}
use Rattle.theory.specs.Calls.{Answer, passes, refused}
use Rattle.theory.specs.Answers.{answer_to}
use Rattle.unify.specs.Cells as C
use Rattle.searching.specs.Checking.{checks_from}
use Rattle.cells.specs.declared.cell.Cell.{Cell}
use Rattle.cells.specs.Cells.{cells_of, WellFormed}
use Rattle.calls.specs.declared.step.Step.{Step}
use Rattle.calls.specs.Steps.{step_of}
use Rattle.slate.specs.declared.refusal.Refusal.{Refusal}
use Rattle.slate.specs.declared.refusal.Rule.{Rule}
use Rattle.slate.specs.Refusals.{refusal_of, rule_number}
use Rattle.frames.specs.declared.frame.Goal.{Goal}
use Rattle.frames.specs.declared.frame.Frame.{Frame}
use Rattle.frames.specs.Goals.{above, Current}
use Rattle.frames.specs.Tries.{Allowed}
use Rattle.frames.specs.Levels.{Level}
use Rattle.solver.specs.Standing.{Standing}
use Rattle.solver.specs.declared.bounds.Bounds.{Bounds}
use Rattle.solver.specs.Searching.{in_use, Ground, Filled}

-- the answer of check
abbrev pub passes_or : {U : Type 0} → Result U Refusal → Answer
passes_or (Ok u) = passes
passes_or (Err e) = refused (refusal_of e)

-- what a check keeps within: a step for each of the record, and the slate's cells, of which the first so many were in
-- use when it began; it makes no tries
abbrev pub bounds_of : ℕ → ℕ → ℕ → Bounds
bounds_of steps cells first = record { budget = 0; steps = steps; cells = cells; first = first }

module _ {L : Type 0} (book : List (Entry L)) where
  -- whatever is replayed: a step with this goal first breaks the rule; or it breaks none by its form
  abbrev pub Tested : List Frame → Goal → Step → Option Rule → Type 0
  Tested frames goal x (Some rule) =
      (goals : List ℕ) (r : Replay L) → Current book goals frames goal r.pending →
      step book r (step_of x) ≡ Replayed.broken (rule_number rule)
  Tested frames goal x None =
      (goals : List ℕ) (l : List T.Goal) (u : Current book goals frames goal l) (n : ℕ) → above goal.parent ≤ n →
      Allowed book frames n goal.inner u.chain x

  -- the goal that is to be taken next is the first that pends; or none pends
  abbrev pub Faces : List ℕ → List Frame → ℕ → Option Goal → List T.Goal → Type 0
  Faces goals frames n None l = l ≡ []
  Faces goals frames n (Some goal) l = Current book goals frames goal l × (above goal.parent ≤ n)

module _ {L : Type 0} (alike : L → L → Bool) (book : List (Entry L)) (goals : List ℕ) (b : Bounds)
    (cells₀ : List (C.Cell L)) (v : Verdict) (cells : List (Cell L)) (work : List ℕ) (frames : List Frame)
    (at : Standing) where
  -- the lists are those of a replay that began over those cells, and with the steps that are left it comes to the verdict
  pub record Replaying (left : List T.Step) : Type 0 where
    pub basis : Ground goals b cells work frames
    pub filled : Filled b cells work at.extent
    pub replay : Replay L
    pub steps : List T.Step
    pub level : Level book goals b.first cells₀ frames at.depth replay steps (in_use cells at.extent)
        (take at.extent.trail work)
    pub faces : Faces book goals frames at.depth at.goal replay.pending
    pub leads : checks_from alike book b.first (b.cells - b.first) left (in_use cells at.extent) replay at.depth ≡ v

  -- the replay has ended, and this is its answer
  pub record Replays (a : Answer) : Type 0 where
    pub basis : Ground goals b cells work frames
    pub filled : Filled b cells work at.extent
    pub replay : Replay L
    pub steps : List T.Step
    pub level : Level book goals b.first cells₀ frames at.depth replay steps (in_use cells at.extent)
        (take at.extent.trail work)
    pub answer : a ≡ answer_to v

-- the verdict was come to, and the cells in use are as they were
pub record TakenBack {L : Type 0} (used : ℕ) (v : Verdict) (cells cells' : List (Cell L)) (a : Answer) : Type 0 where
  pub answer : a ≡ answer_to v
  pub left : cells_of (take used cells') ≡ cells_of (take used cells)
  pub sound : WellFormed (take used cells')
  pub as_many : length cells' ≡ length cells
