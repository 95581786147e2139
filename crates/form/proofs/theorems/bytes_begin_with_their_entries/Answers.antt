-- Bytes begin with the form of the entries that they mean.
use Rattle.form.proofs.WriteBack.{form_begins}
use Rattle.form.proofs.theorems.bytes_begin_with_their_entries.Goals as goal

pub returns : goal.returns
returns g c =
    let leaf = g.L.WireLeaf in
    form_begins leaf.wide leaf.written leaf.reading g.met.L.WireLeaf.rewrites
