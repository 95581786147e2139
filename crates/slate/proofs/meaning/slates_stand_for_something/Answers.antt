use base.Stored.{Coded-set}
use Rattle.slate.proofs.Meaningful.{something}
use Rattle.slate.proofs.meaning.slates_stand_for_something.Goals as goal

pub returns : goal.returns
returns g c = something (Coded-set g.row.L.coded)
