use Rattle.theory.proofs.Tries.{tries_allowed}
use Rattle.theory.proofs.tries_are_the_steps_allowed.Goals as goal

pub returns : goal.returns
returns g c = λ book r x. tries_allowed book r x
