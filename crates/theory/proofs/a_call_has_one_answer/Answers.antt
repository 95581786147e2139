use Rattle.theory.proofs.OneAnswer.{one_answer}
use Rattle.theory.proofs.a_call_has_one_answer.Goals as goal

pub returns : goal.returns
returns g c = λ book supplied k x a b p q. one_answer k book supplied x a b p q
