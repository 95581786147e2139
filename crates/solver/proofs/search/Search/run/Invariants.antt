use Rattle.solver.specs.Searching.{turns_left}
use Rattle.solver.specs.Derivations.{moment_of, origin_of, GoesOn, SearchRuns}
use Rattle.solver.proofs.search.Search.run.Given as goal

abbrev pub invariant-loop-self : goal.invariant-loop-self
invariant-loop-self g l = record {
  runs : SearchRuns g.L.PartialEq.eq (g.B.Book.entries l.self.derivation.now.book.now) (origin_of l.initial.self) l.self;
  same : GoesOn l.initial.self l.self;
}

abbrev pub decreases-loop-self : goal.decreases-loop-self
decreases-loop-self g l = turns_left l.self.bounds (moment_of l.self)
