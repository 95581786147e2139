use Rattle.std.proofs.Common.{◌≡◌, ◌<◌, length}
use Rattle.unify.specs.Cells as C
use Rattle.cells.specs.Cells.{cells_of}
use Rattle.cells.proofs.chains.root.Given as goal

abbrev pub invariant-loop-next : goal.invariant-loop-next
invariant-loop-next g l = (l.at < length l.cells) × (C.root (cells_of l.cells) l.at ≡ C.root (cells_of l.cells)
    l.i)

abbrev pub decreases-loop-next : goal.decreases-loop-next
decreases-loop-next g l = C.rank (cells_of l.cells) l.at
