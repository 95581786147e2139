use Rattle.theory.proofs.SearchesEnd.{search_ends}
use Rattle.theory.proofs.searches_end.Goals as goal

pub returns : goal.returns
returns g c = λ decide book known lim goals. search_ends decide book known lim goals
