use Rattle.unify.proofs.Meant.{own_atoms}
use Rattle.unify.proofs.atoms_are_nodes.Goals as goal

pub returns : goal.returns
returns g c = λ cells ok i. own_atoms cells ok i
