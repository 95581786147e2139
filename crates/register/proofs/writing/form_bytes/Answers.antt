use Rattle.std.proofs.Common.{ap, ◌∙◌}
use Rattle.form.specs.Forms.{book_form}
use Rattle.form.specs.Meanings.{meaning}
use Rattle.form.proofs.ReadBack.{read_back}
use Rattle.book.proofs.Once.{kept}
use Rattle.register.proofs.Written.{filled}
use Rattle.register.proofs.writing.form_bytes.Goals as goal

pub returns : goal.returns
returns g c =
    let leaf = g.L.WireLeaf in
    let laws = g.met.L.WireLeaf in
    let es = g.B.Book.entries c.args.book.now in
    let wrote = c.in_ok-count.ensures in
    ap (meaning leaf.wide leaf.reading) (c.in_ok-from_slice.ensures.items ∙ filled _ _ (book_form leaf.written es) c.in_ok-count.count wrote.1)
    ∙ read_back leaf.wide leaf.written leaf.reading laws.narrow.1 laws.even laws.rereads es (kept (g.met.B.Book.rules c.args.book.now)) wrote.0
