use Rattle.slate.proofs.Answering.{carries_on, leaf_kept}
use Rattle.slate.proofs.slate.Slate.leaf.Goals as goal

pub returns : goal.returns
returns g c = let k = leaf_kept _ _ _ _ c.write.ensures in record { kept = k; carries = carries_on k }
