-- The answer of a call, by what the call gave.
use Rattle.std.proofs.Common.{◌≡◌, Ok, Err, Result, ap, ◌∙◌}
use Rattle.std.specs.Prelude.{MatchResult}
use Rattle.theory.specs.Calls as T
use Rattle.calls.specs.declared.answer.Answer.{Answer}
use Rattle.calls.specs.declared.answer.Answer.TheVariants.{Refused}
use Rattle.calls.specs.Answers.{answer_of}
use Rattle.slate.specs.declared.refusal.Refusal.{Refusal}
use Rattle.slate.specs.Refusals.{refusal_of}

-- it is the one defined, if that of what it gives is, and a refusal is answered as such
pub answered_is : {V : Type 0} {P : V → Type 0} (to : Result V Refusal → T.Answer) (a : Answer) (res : Result V Refusal) →
    MatchResult res P (λ e. a ≡ Refused e) → ((x : V) → P x → answer_of a ≡ to (Ok x)) →
    ((e : Refusal) → T.refused (refusal_of e) ≡ to (Err e)) → answer_of a ≡ to res
answered_is to a (Ok x) h given refused = given x h
answered_is to a (Err e) h given refused = ap answer_of h ∙ refused e
