use Rattle.theory.proofs.NoFacts.{not_held}
use Rattle.theory.proofs.loops_alone_are_not_held.Goals as goal

pub returns : goal.returns
returns g c = λ book bodies t l. not_held book bodies t l
