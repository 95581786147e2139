use Rattle.theory.proofs.HeldGoals.{goals_held}
use Rattle.theory.proofs.recorded_goals_are_held.Goals as goal

pub returns : goal.returns
returns g c = goals_held
