use Rattle.searching.proofs.Enough.{turns_are_enough}
use Rattle.searching.proofs.turns_suffice.Goals as goal

pub returns : goal.returns
returns g c = turns_are_enough _
