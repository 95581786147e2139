use Rattle.theory.proofs.FirstRecords.{granted_first}
use Rattle.theory.proofs.granted_searches_find_the_first.Goals as goal

pub returns : goal.returns
returns g c = λ book known lim goals n steps t others l. granted_first book known lim goals n steps t others l
