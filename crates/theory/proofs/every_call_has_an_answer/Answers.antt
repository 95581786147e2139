use Rattle.theory.proofs.AnswersExist.{answered}
use Rattle.theory.proofs.every_call_has_an_answer.Goals as goal

pub returns : goal.returns
returns g c = λ d book supplied k x s. answered d k book supplied x s
