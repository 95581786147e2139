-- The answer of solve, and what it leaves in the record list.
use Rattle.std.specs.Prelude.{◌≡◌, ℕ, ◌≤◌, List, ◌++◌, map, length, take, drop, Ok, Err, Result}
use Rattle.theory.specs.Calls.{Answer, grants, fails, refused}
use Rattle.theory.specs.Answers.{answer_of}
use Rattle.calls.specs.declared.step.Step.{Step}
use Rattle.calls.specs.Steps.{steps_of}
use Rattle.slate.specs.declared.refusal.Refusal.{Refusal}
use Rattle.slate.specs.Refusals.{refusal_of}
use Rattle.frames.specs.declared.frame.Frame.{Frame}
use Rattle.solver.specs.declared.solved.Solved.{Solved}
use Rattle.solver.specs.declared.solved.Solved.TheVariants.{Granted, Failed}
use Rattle.solver.specs.declared.ending.Finish.{Finish}
use Rattle.solver.specs.Searching.{frame_steps, outcome_of}

-- the answer of solve; the record of a grant stands in the first steps of the record list
abbrev pub solved_or : List Step → Result Solved Refusal → Answer
solved_or record_list (Ok (Granted count n)) = grants count (steps_of (take n record_list))
solved_or record_list (Ok (Failed count)) = fails count
solved_or record_list (Err e) = refused (refusal_of e)

-- the record list after solve: a grant alters only its first steps, and all else leaves it unaltered
abbrev pub RecordLeft : List Step → List Step → Result Solved Refusal → Type 0
RecordLeft old new (Ok (Granted count n)) = (n ≤ length old) × (length new ≡ length old) × (drop n new ≡ drop n old)
RecordLeft old new (Ok (Failed count)) = new ≡ old
RecordLeft old new (Err e) = new ≡ old

-- the record of a grant is no longer than the record list
abbrev pub RecordHolds : ℕ → Result Solved Refusal → Type 0
RecordHolds room (Ok (Granted count n)) = n ≤ room
RecordHolds room (Ok (Failed count)) = Unit {0}
RecordHolds room (Err e) = Unit {0}

-- the record list with the steps of the frames in its first places
abbrev pub steps_written : List Frame → List Step → List Step
steps_written frames old = map (λ f. f.step) frames ++ drop (length frames) old

-- the answer is that of the search's outcome
pub record Concluded (end : Finish) (frames : List Frame) (old new : List Step) (r : Result Solved Refusal) : Type 0 where
  pub is : solved_or new r ≡ answer_of (outcome_of end.ending end.count (frame_steps (take end.depth frames)))
  pub left : RecordLeft old new r
