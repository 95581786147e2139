use Rattle.std.proofs.Common.{◌-◌, sym, ap, ◌∙◌, arith}
use Rattle.std.specs.List.{slice_get}
use Rattle.book.proofs.Sides.{in_first, in_none, in_second}
use Rattle.book.proofs.annex.place_of.Goals as goal

pub returns-then-entry-before : goal.returns-then-entry-before
returns-then-entry-before g c =
    let es = g.A.Book.entries c.args.annex.now.first in
    let fs = g.B.Book.entries c.args.annex.now.second in
    let n = c.len-before.ensures in
    in_first es fs c.args.entry (g.met.A.Book.rules c.args.annex.now.first) (omega (arith, n))

pub returns-then-entry-lt-MOST_ENTRIES : goal.returns-then-entry-lt-MOST_ENTRIES
returns-then-entry-lt-MOST_ENTRIES g c =
    let es = g.A.Book.entries c.args.annex.now.first in
    let fs = g.B.Book.entries c.args.annex.now.second in
    let n = c.len-before.ensures in
    in_second es fs c.args.entry (omega (arith, n)) (omega arith) ∙ ap (λ k. slice_get fs (c.args.entry - k)) (sym n)

pub returns-else-entry-lt-MOST_ENTRIES : goal.returns-else-entry-lt-MOST_ENTRIES
returns-else-entry-lt-MOST_ENTRIES g c =
    let es = g.A.Book.entries c.args.annex.now.first in
    let fs = g.B.Book.entries c.args.annex.now.second in
    in_none es fs c.args.entry (omega arith)
