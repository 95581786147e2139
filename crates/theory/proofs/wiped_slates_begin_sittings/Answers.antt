use Rattle.std.proofs.Common.{[]}
use Rattle.theory.proofs.CarriedSittings.{wiped}
use Rattle.theory.proofs.LawOfSittings.{law}
use Rattle.theory.proofs.wiped_slates_begin_sittings.Goals as goal

pub returns : goal.returns
returns g c = record { no_cells = wiped; no_calls = λ book rules supplied. (tt, law book rules supplied [] tt) }
