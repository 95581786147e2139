use Rattle.solver.specs.Derivations.{ReplayGoes}
use Rattle.solver.proofs.derivation.Derivation.replay.Given as goal

abbrev pub invariant-loop-i : goal.invariant-loop-i
invariant-loop-i g l = ReplayGoes g.L.PartialEq.eq g.B.Book.entries l.initial.self l.room l.self l.record l.i
