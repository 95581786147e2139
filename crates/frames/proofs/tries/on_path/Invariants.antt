use Rattle.std.proofs.Common.{◌≡◌, ℕ, List}
use Rattle.theory.specs.Records.{member}
use Rattle.frames.specs.Goals.{above}
use Rattle.frames.specs.Tries.{Chain, Chained}
use Rattle.frames.proofs.tries.on_path.Given as goal

abbrev pub invariant-loop-next : goal.invariant-loop-next
invariant-loop-next l =
    Chained l.frames l.next ×
    ((chain : List ℕ) → Chain l.frames chain l.initial.next →
    (rest : List ℕ) × Chain l.frames rest l.next × (member l.number rest ≡ member l.number chain))

abbrev pub decreases-loop-next : goal.decreases-loop-next
decreases-loop-next l = above l.next
