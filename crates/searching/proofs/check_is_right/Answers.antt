use Rattle.searching.proofs.Theorems.{check_right}
use Rattle.searching.proofs.check_is_right.Goals as goal

pub returns : goal.returns
returns g c = check_right _
