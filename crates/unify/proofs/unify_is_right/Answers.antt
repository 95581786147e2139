use Rattle.unify.proofs.Unified.{unify_right}
use Rattle.unify.proofs.unify_is_right.Goals as goal

pub returns : goal.returns
returns g c = λ same law cells ok a b ha hb. unify_right same law cells ok a b ha hb
