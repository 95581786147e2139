-- Bytes mean entries that keep the rules.
use Rattle.form.proofs.Rules.{meaning_rules}
use Rattle.form.proofs.theorems.meanings_keep_the_rules.Goals as goal

pub returns : goal.returns
returns g c = meaning_rules g.L.WireLeaf.wide g.L.WireLeaf.reading
