use Rattle.theory.proofs.LawOfSittings.{law}
use Rattle.theory.proofs.right_sittings_keep_the_law.Goals as goal

pub returns : goal.returns
returns g c = λ book rules supplied h r. law book rules supplied h r
