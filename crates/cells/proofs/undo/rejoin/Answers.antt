use Rattle.cells.proofs.Read.{content_read, set_rejoin}
use Rattle.cells.proofs.undo.rejoin.Goals as goal

pub returns-clause-is : goal.returns-clause-is
returns-clause-is g c = set_rejoin _ _ _ c.requires.inside (content_read _ _ _ c.requires.inside)
