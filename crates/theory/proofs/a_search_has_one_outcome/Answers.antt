use Rattle.theory.proofs.OneOutcome.{one_outcome}
use Rattle.theory.proofs.a_search_has_one_outcome.Goals as goal

pub returns : goal.returns
returns g c = λ book known lim goals o p s t. one_outcome book known lim goals o p s t
