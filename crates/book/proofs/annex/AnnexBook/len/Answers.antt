use Rattle.std.proofs.Common.{arith}
use Rattle.book.proofs.Sides.{annexed_count, at_most}
use Rattle.book.proofs.annex.AnnexBook.len.Goals as goal

pub returns : goal.returns
returns g c =
    let first = c.args.self.now.first in
    let second = c.args.self.now.second in
    let few = at_most (g.met.A.Book.rules first) in
    let less = at_most (g.met.B.Book.rules second) in
    let e = annexed_count (g.A.Book.entries first) (g.B.Book.entries second) in
    let s = c.saturating_add.ensures in
    let m = c.min.ensures in
    omega (arith, few, less, e, s, m, c.len.ensures, c.len-2.ensures)
