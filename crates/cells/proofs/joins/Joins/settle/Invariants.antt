use Rattle.std.proofs.Common.{◌≡◌, ◌-◌, ◌≤◌, length}
use Rattle.unify.specs.Unify.{rest}
use Rattle.cells.specs.Loops.{IsReady, Borrows, at_place}
use Rattle.cells.proofs.joins.Joins.settle.Given as goal

abbrev pub invariant-loop-cell : goal.invariant-loop-cell
invariant-loop-cell g l = record {
  ready : IsReady l.self;
  borrows : Borrows l.initial.self l.self;
  part : l.self.paid ≤ l.self.used;
  is : rest g.L.PartialEq.eq l.self.open_joins (at_place l.self l.self.paid) ≡
      rest g.L.PartialEq.eq l.initial.self.open_joins (at_place l.initial.self 0);
}

abbrev pub decreases-loop-cell : goal.decreases-loop-cell
decreases-loop-cell g l = length l.initial.self.cells.now - l.self.paid
