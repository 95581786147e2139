-- Bytes without a fault are the form of what they mean.
use Rattle.form.proofs.WriteBack.{write_back}
use Rattle.form.proofs.theorems.meanings_write_back.Goals as goal

pub returns : goal.returns
returns g c =
    let leaf = g.L.WireLeaf in
    write_back leaf.wide leaf.written leaf.reading g.met.L.WireLeaf.rewrites
