use Rattle.unify.proofs.ReadingMeets.{reading_solves, at_open}
use Rattle.unify.specs.Readings.{reading}
use Rattle.unify.proofs.solved_cells_have_readings.Goals as goal

pub returns : goal.returns
returns g c = λ cells ok given trees. (reading cells given, reading_solves cells given ok trees, at_open cells given)
