use Rattle.theory.proofs.FailedSearches.{failed_none}
use Rattle.theory.proofs.failed_searches_leave_no_record.Goals as goal

pub returns : goal.returns
returns g c = λ book known more lim goals n s steps l. failed_none book known more lim goals n s steps l
