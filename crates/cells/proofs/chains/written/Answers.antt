use Rattle.cells.proofs.Read.{content_read}
use Rattle.cells.proofs.chains.written.Goals as goal

pub returns-clause-is : goal.returns-clause-is
returns-clause-is g c = content_read _ _ _ c.requires.inside
