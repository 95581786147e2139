use Rattle.searching.proofs.EverySitting.{every_sitting}
use Rattle.searching.proofs.every_sitting_comes_out.Goals as goal

pub returns : goal.returns
returns g c = every_sitting _
