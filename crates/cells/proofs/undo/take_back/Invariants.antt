use Rattle.std.proofs.Common.{◌≡◌, ◌-◌, length, take}
use Rattle.unify.specs.Unify.{clear}
use Rattle.cells.specs.Cells.{AllCounted, cells_of}
use Rattle.cells.proofs.undo.take_back.Given as goal

abbrev pub invariant-loop-cell : goal.invariant-loop-cell
invariant-loop-cell g l = record {
  counted : AllCounted l.cells;
  as_many : length l.cells ≡ length l.initial.cells;
  left : clear (take (length l.trail - length l.yielded) l.trail) (cells_of l.cells) ≡ clear l.trail (cells_of l.initial.cells);
}
