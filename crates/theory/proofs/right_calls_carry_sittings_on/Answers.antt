use Rattle.theory.proofs.CarriedSittings.{carries}
use Rattle.theory.proofs.right_calls_carry_sittings_on.Goals as goal

pub returns : goal.returns
returns g c = λ book rules supplied cs ds x a f. carries book rules supplied cs ds x a f
