use Rattle.searching.proofs.Theorems.{search_right}
use Rattle.searching.proofs.search_is_right.Goals as goal

pub returns : goal.returns
returns g c = search_right _
