use Rattle.searching.proofs.Computed.{computed}
use Rattle.searching.proofs.Tabled.{cases_right}
use Rattle.searching.proofs.worked_cases_come_out.Goals as goal

pub returns : goal.returns
returns c = record { executed = computed; right = cases_right }
