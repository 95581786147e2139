use Rattle.solver.specs.Derivations.{origin_of}
use Rattle.solver.proofs.Backing.{failing, retractable, named, after_back}
use Rattle.solver.proofs.search.Search.step_back.Goals as goal

pub returns-then-depth-eq0-clause-turned : goal.returns-then-depth-eq0-clause-turned
returns-then-depth-eq0-clause-turned g c =
    let s = c.args.self.now in
    failing g.L.PartialEq.eq g.met.L.Leaf.decides g.B.Book.entries g.met.B.Book.rules s (origin_of s) c.requires.running c.requires.exhausted.0
    c.requires.exhausted.1.taken c.requires.exhausted.1.try c.if-depth-eq0.true

pub retract-requires : goal.retract-requires
retract-requires g c =
    let s = c.args.self.now in
    retractable g.L.PartialEq.eq g.met.L.Leaf.decides g.B.Book.entries g.met.B.Book.rules s (origin_of s) c.requires.running c.requires.exhausted.0
    c.requires.exhausted.1.taken c.requires.exhausted.1.try c.if-depth-eq0.false

pub tries_after-self-requires : goal.tries_after-self-requires
tries_after-self-requires g c =
    let s = c.args.self.now in
    named g.L.PartialEq.eq g.met.L.Leaf.decides g.B.Book.entries g.met.B.Book.rules s (origin_of s) c.requires.running c.requires.exhausted.0
    c.requires.exhausted.1.taken c.requires.exhausted.1.try c.if-depth-eq0.false

pub returns-clause-turned : goal.returns-clause-turned
returns-clause-turned g c =
    let s = c.args.self.now in
    after_back g.L.PartialEq.eq g.met.L.Leaf.decides g.B.Book.entries g.met.B.Book.rules s (origin_of s) c.requires.running c.requires.exhausted.0
    c.requires.exhausted.1.taken c.requires.exhausted.1.try c.if-depth-eq0.false
    c.retract.new.self.cells.now c.retract.ensures.is c.tries_after-self.result c.tries_after-self.ensures
    c.retract.new.self.extent c.retract.ensures.extent c.retract.new.self.work.now c.retract.ensures.work
