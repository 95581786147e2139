use Rattle.theory.proofs.CheckVerdicts.{exact}
use Rattle.theory.proofs.check_is_exact.Goals as goal

pub returns : goal.returns
returns g c = λ book known free goals steps v s t. exact book known free goals steps v s t
