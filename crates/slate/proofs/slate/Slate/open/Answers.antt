use Rattle.slate.proofs.Answering.{carries_on, open_kept}
use Rattle.slate.proofs.slate.Slate.open.Goals as goal

pub returns : goal.returns
returns g c = let k = open_kept _ _ _ c.write.ensures in record { kept = k; carries = carries_on k }
