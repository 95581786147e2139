use Rattle.searching.proofs.Sittings.{sittings_right}
use Rattle.searching.proofs.sittings_are_right.Goals as goal

pub returns : goal.returns
returns g c = sittings_right _
