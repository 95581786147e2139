use Rattle.unify.proofs.Worked.{worked}
use Rattle.unify.proofs.worked_cases.Goals as goal

pub returns : goal.returns
returns c = worked
