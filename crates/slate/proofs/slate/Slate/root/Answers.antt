use Rattle.std.proofs.Common.{◌<◌, length, ap, ◌∙◌, subst}
use base.Stored.{Coded-set}
use Rattle.unify.specs.Cells.{root}
use Rattle.cells.specs.Cells.{cells_of}
use Rattle.slate.proofs.Questions.{leads}
use Rattle.slate.proofs.slate.Slate.root.Goals as goal

pub returns-clause-leads : goal.returns-clause-leads
returns-clause-leads g c = leads (Coded-set g.row.L.coded) c.args.self.now c.args.cell c.in_ok-in_use.ensures c.root-end.result
    (c.root-end.ensures.is ∙ ap (λ l. root (cells_of l) c.args.cell) c.written.ensures)
    (subst (λ l. c.root-end.result < length l) c.written.ensures c.root-end.ensures.inside)
