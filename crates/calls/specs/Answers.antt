-- The answers, as the definitions have them.
use Rattle.std.specs.Prelude.{vec_items}
use Rattle.theory.specs.Calls as T
use Rattle.calls.specs.declared.answer.Answer.{Answer}
use Rattle.calls.specs.declared.answer.Answer.TheVariants.{Wrote, Accepted, Same, Different}
use Rattle.calls.specs.declared.answer.Answer.TheVariants.{Granted, Failed, Passed, Refused}
use Rattle.slate.specs.Refusals.{refusal_of}
use Rattle.calls.specs.Steps.{steps_of}

-- an answer, as the definitions have it
abbrev pub answer_of : Answer → T.Answer
answer_of (Wrote cell) = T.wrote cell
answer_of Accepted = T.accepted
answer_of Same = T.same
answer_of Different = T.different
answer_of (Granted count steps) = T.grants count (steps_of (vec_items steps))
answer_of (Failed count) = T.fails count
answer_of Passed = T.passes
answer_of (Refused refusal) = T.refused (refusal_of refusal)
