use Rattle.std.proofs.Common.{sym, subst}
use base.Stored.{Coded-set}
use Rattle.unify.specs.Cells.{root, content_at}
use Rattle.cells.specs.Cells.{cells_of, WellFormed}
use Rattle.cells.specs.Loops.{TellsNode}
use Rattle.slate.proofs.Questions.{sound_of, tells}
use Rattle.slate.proofs.slate.Slate.is_atom.Goals as goal

pub node_at_root-requires-clause-sound : goal.node_at_root-requires-clause-sound
node_at_root-requires-clause-sound g c =
    subst WellFormed (sym c.written.ensures) (sound_of (Coded-set g.row.L.coded) c.args.self.now)

pub returns-clause-tells : goal.returns-clause-tells
returns-clause-tells g c = tells (Coded-set g.row.L.coded) c.args.self.now c.args.cell c.in_ok-in_use.ensures
    c.node_at_root.result
    (subst (λ l. TellsNode (content_at (cells_of l) (root (cells_of l) c.args.cell)) c.node_at_root.result)
    c.written.ensures c.node_at_root.ensures)
