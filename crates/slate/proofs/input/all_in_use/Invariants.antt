use Rattle.std.proofs.Common.{◌≡◌, drop}
use Rattle.theory.specs.Answers.{first_unused}
use Rattle.slate.proofs.input.all_in_use.Given as goal

abbrev pub invariant-loop-cell : goal.invariant-loop-cell
invariant-loop-cell l = first_unused l.used (drop l.cell-index l.cells) ≡ first_unused l.used l.cells
