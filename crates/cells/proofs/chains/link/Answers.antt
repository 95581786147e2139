use Rattle.cells.proofs.Read.{joined_read}
use Rattle.cells.proofs.chains.link.Goals as goal

pub returns : goal.returns
returns g c = joined_read _ _ _ c.requires
