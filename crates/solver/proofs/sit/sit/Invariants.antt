use Rattle.std.proofs.Common.{◌≡◌, map, length, take, vec_items}
use Rattle.calls.specs.Answers.{answer_of}
use Rattle.slate.specs.Slates.{supplied, on_slate}
use Rattle.solver.specs.Sitting.{lent, history, Sitting}
use Rattle.solver.proofs.sit.sit.Given as goal

abbrev pub invariant-loop-call : goal.invariant-loop-call
invariant-loop-call g l =
    (length (vec_items l.answers) ≡ l.call-index) × (supplied l.slate ≡ supplied l.initial.slate) ×
    (length l.steps ≡ length l.initial.steps) × (length l.work ≡ length l.initial.work) ×
    (length l.frames ≡ length l.initial.frames) ×
    Sitting (g.B.Book.entries l.book) (supplied l.initial.slate)
    (history (map (lent (length l.initial.steps) (length l.initial.work) (length l.initial.frames))
    (take l.call-index l.calls)) (map answer_of (vec_items l.answers))) (on_slate l.slate)
