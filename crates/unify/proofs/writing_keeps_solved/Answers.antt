use Rattle.unify.proofs.Written.{writing}
use Rattle.unify.proofs.writing_keeps_solved.Goals as goal

pub returns : goal.returns
returns g c = writing _
