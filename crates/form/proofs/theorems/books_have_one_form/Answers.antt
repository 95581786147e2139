-- Bytes without a fault that mean the same are the same.
use Rattle.form.proofs.WriteBack.{one_form}
use Rattle.form.proofs.theorems.books_have_one_form.Goals as goal

pub returns : goal.returns
returns g c =
    let leaf = g.L.WireLeaf in
    one_form leaf.wide leaf.written leaf.reading g.met.L.WireLeaf.rewrites
