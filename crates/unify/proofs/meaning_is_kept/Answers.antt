use Rattle.unify.proofs.Meant.{meaning}
use Rattle.unify.proofs.meaning_is_kept.Goals as goal

pub returns : goal.returns
returns g c = meaning _
