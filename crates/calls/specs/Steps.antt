-- The steps of a record, as the definitions have them.
use Rattle.std.specs.Prelude.{List, map}
use Rattle.theory.specs.Records as T
use Rattle.calls.specs.declared.step.Step.{Step}

-- a step, as the definitions have it
abbrev pub step_of : Step → T.Step
step_of s = record { mode = s.mode; number = s.number }

-- all steps, as the definitions have them
abbrev pub steps_of : List Step → List T.Step
steps_of steps = map step_of steps
