use Rattle.std.proofs.Common.{take}
use Rattle.std.specs.Fmt.{HasWritten, IsPlainFormatter}
use Rattle.calls.specs.Steps.{steps_of}
use Rattle.calls.specs.AnswerLines.{text_of_steps}
use Rattle.calls.proofs.answer.RecordDisplay.fmt.Given as goal

abbrev pub invariant-loop-step : goal.invariant-loop-step
invariant-loop-step g l =
    IsPlainFormatter l.initial.f → HasWritten g.W.Write.write_str_gives l.initial.f (text_of_steps (steps_of (take l.step-index l.step-items))) l.f
