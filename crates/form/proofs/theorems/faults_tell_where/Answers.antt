-- A fault counts the entries before it, and lies at one of the bytes after their form.
use Rattle.form.proofs.Faults.{fault_lies}
use Rattle.form.proofs.theorems.faults_tell_where.Goals as goal

pub returns : goal.returns
returns g c =
    let leaf = g.L.WireLeaf in
    fault_lies leaf.wide leaf.written leaf.reading g.met.L.WireLeaf.rewrites
