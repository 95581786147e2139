use Rattle.std.proofs.Common.{ℕ, List, Ok, subst}
use Rattle.theory.specs.Entries.{Entry}
use Rattle.solver.specs.declared.bounds.Bounds.{Bounds}
use Rattle.solver.specs.Searching.{Finished}
use Rattle.solver.specs.Derivations.{moment_of, origin_of}
use Rattle.solver.proofs.Backing.{granted}
use Rattle.solver.proofs.Onward.{backward}
use Rattle.solver.proofs.search.Search.run.Goals as goal

pub returns-clause-ended : goal.returns-clause-ended
returns-clause-ended g c =
    let s = c.args.self.now in
    let l = c.loop-self.self in
    let d = l.derivation.now in
    let alike = g.L.PartialEq.eq in
    let same = c.loop-self.invariant.same in
    let Done = λ (b : Bounds) (book : List (Entry _)) (goals : List ℕ). Finished alike book goals b (origin_of s) d.store.now.cells.now d.store.now.work.now
    d.frames.now (moment_of l) (Ok tt) in
    backward g.B.Book.entries s.derivation.now d (Done s.bounds) same.over
    (subst (λ b. Done b (g.B.Book.entries d.book.now) d.goals.now) same.bounds
    (granted alike g.met.L.Leaf.decides g.B.Book.entries g.met.B.Book.rules l (origin_of s) c.loop-self.invariant.runs c.in_default.is))
