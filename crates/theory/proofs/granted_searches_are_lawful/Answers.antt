use Rattle.theory.proofs.GrantedSearches.{granted_found}
use Rattle.theory.proofs.granted_searches_are_lawful.Goals as goal

pub returns : goal.returns
returns g c = λ book known lim goals n steps s t. granted_found book known lim goals n steps s t
