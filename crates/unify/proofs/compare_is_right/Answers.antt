use Rattle.unify.proofs.Compared.{compare_right}
use Rattle.unify.proofs.compare_is_right.Goals as goal

pub returns : goal.returns
returns g c = λ same law cells ok a b ha hb. compare_right same law cells ok a b ha hb
