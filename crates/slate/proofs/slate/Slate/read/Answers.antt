use Rattle.std.proofs.Common.{get_or, Ok, sym, ap, ◌∙◌, subst}
use base.Stored.{Coded-set}
use Rattle.slate.specs.Slates.{Reads}
use Rattle.slate.proofs.Questions.{reads}
use Rattle.slate.proofs.slate.Slate.read.Goals as goal

pub returns-clause-reads : goal.returns-clause-reads
returns-clause-reads g c =
    let d = c.index-written-cell.result in
    subst (λ e. Reads c.args.self.now c.args.cell (Ok e))
    (sym (c.index-written-cell.is ∙ ap (λ l. get_or l c.args.cell d) c.written.ensures))
    (reads (Coded-set g.row.L.coded) c.args.self.now c.args.cell c.in_ok-in_use.ensures d)
