use Rattle.std.proofs.Common.{◌≡◌, take, drop}
use Rattle.searching.specs.Answering.{first_non_atom}
use Rattle.cells.specs.Cells.{cells_of}
use Rattle.solver.proofs.input.all_atoms.Given as goal

abbrev pub invariant-loop-goal : goal.invariant-loop-goal
invariant-loop-goal g l =
    first_non_atom (cells_of (take l.used l.cells)) (drop l.goal-index l.goals)
    ≡ first_non_atom (cells_of (take l.used l.cells)) l.goals
