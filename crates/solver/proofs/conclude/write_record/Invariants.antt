use Rattle.std.proofs.Common.{◌≡◌, take}
use Rattle.solver.specs.Solver.{steps_written}
use Rattle.solver.proofs.conclude.write_record.Given as goal

abbrev pub invariant-loop-i : goal.invariant-loop-i
invariant-loop-i l = l.steps ≡ steps_written (take l.i l.frames) l.initial.steps
