-- The form of a book means that book.
use Rattle.form.proofs.ReadBack.{read_back}
use Rattle.form.proofs.theorems.forms_read_back.Goals as goal

pub returns : goal.returns
returns g c =
    let leaf = g.L.WireLeaf in
    let laws = g.met.L.WireLeaf in
    read_back leaf.wide leaf.written leaf.reading laws.narrow.1 laws.even laws.rereads
