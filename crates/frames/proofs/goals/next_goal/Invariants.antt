use Rattle.std.proofs.Common.{ℕ, ◌≤◌, List}
use Rattle.theory.specs.Records as T
use Rattle.frames.specs.Goals.{above, Pends, Pending}
use Rattle.frames.proofs.goals.next_goal.Given as goal

abbrev pub invariant-loop-parent : goal.invariant-loop-parent
invariant-loop-parent g l =
    Pending (g.B.Book.entries l.book) l.goals l.frames l.parent l.at ×
    (above l.parent ≤ above l.initial.parent) ×
    ((chain : List ℕ) (pending : List T.Goal) →
    Pends (g.B.Book.entries l.book) l.goals l.frames chain l.initial.parent l.initial.at pending →
    (chain' : List ℕ) × Pends (g.B.Book.entries l.book) l.goals l.frames chain' l.parent l.at pending)

abbrev pub decreases-loop-parent : goal.decreases-loop-parent
decreases-loop-parent g l = above l.parent
