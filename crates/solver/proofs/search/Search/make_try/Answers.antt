use Rattle.std.proofs.Common.{◌-◌, ◌<◌, ◌≤◌, ◌∙◌, subst}
use Rattle.solver.specs.Derivations.{standing_of, origin_of}
use Rattle.solver.proofs.Moments.{spent, full, scarce, takeable, after_fall, after_step}
use Rattle.solver.proofs.search.Search.make_try.Goals as goal
use Rattle.solver.proofs.search.Search.make_try.Goals.{then-take_step, else-take_step}

pub returns-then-self-clause-turned : goal.returns-then-self-clause-turned
returns-then-self-clause-turned g c =
    let s = c.args.self.now in
    spent g.L.PartialEq.eq g.met.L.Leaf.decides g.B.Book.entries g.met.B.Book.rules s (origin_of s) c.requires.running c.args.goal
    c.requires.facing.taken c.args.step c.requires.facing.try c.if-self.true

pub returns-then-self-2-clause-turned : goal.returns-then-self-2-clause-turned
returns-then-self-2-clause-turned g c =
    let s = c.args.self.now in
    full g.L.PartialEq.eq g.met.L.Leaf.decides g.B.Book.entries g.met.B.Book.rules s (origin_of s) c.requires.running c.args.goal
    c.requires.facing.taken c.args.step c.requires.facing.try c.if-self.false c.if-self-2.true

pub returns-then-self-used-clause-turned : goal.returns-then-self-used-clause-turned
returns-then-self-used-clause-turned g c =
    let s = c.args.self.now in
    let d = s.derivation.now in
    scarce g.L.PartialEq.eq g.met.L.Leaf.decides g.B.Book.entries g.met.B.Book.rules s (origin_of s) c.requires.running c.args.goal
    c.requires.facing.taken c.args.step c.requires.facing.try c.if-self.false c.if-self-2.false
    (subst (λ k. s.bounds.cells - d.store.now.extent.used < k) c.cells_needed.ensures c.if-self-used.true)

pub take_step-requires : goal.take_step-requires
take_step-requires g c =
    let s = c.args.self.now in
    let d = s.derivation.now in
    takeable g.L.PartialEq.eq g.met.L.Leaf.decides g.B.Book.entries g.met.B.Book.rules s (origin_of s) c.requires.running c.args.goal
    c.requires.facing.taken c.args.step c.requires.facing.try c.if-self.false c.if-self-2.false
    (subst (λ k. k ≤ s.bounds.cells - d.store.now.extent.used) c.cells_needed.ensures c.if-self-used.false)

pub returns-clause-turned : goal.returns-clause-turned
returns-clause-turned g c =
    let s = c.args.self.now in
    let d = s.derivation.now in
    let d' = c.take_step.new.self in
    let enough = subst (λ k. k ≤ s.bounds.cells - d.store.now.extent.used) c.cells_needed.ensures c.if-self-used.false in
    elim c.if-take_step.branch [
      | then-take_step w ↦
          after_step g.L.PartialEq.eq g.met.L.Leaf.decides g.B.Book.entries g.met.B.Book.rules s (origin_of s) c.requires.running c.args.goal
          c.requires.facing.taken c.args.step c.requires.facing.try c.if-self.false c.if-self-2.false enough
          d'.store.now.cells.now d'.store.now.work.now d'.frames.now (standing_of d') w.if-take_step.ensures.is
          c.if-take_step.self (λ y e. w.self-is ∙ w.first_tries-self.ensures y e)
      | else-take_step w ↦
          after_fall g.L.PartialEq.eq g.met.L.Leaf.decides g.B.Book.entries g.met.B.Book.rules s (origin_of s) c.requires.running c.args.goal
          c.requires.facing.taken c.args.step c.requires.facing.try c.if-self.false c.if-self-2.false enough
          d'.store.now.cells.now d'.store.now.work.now d'.frames.now (standing_of d') w.if-take_step.ensures.is
          c.if-take_step.self (w.self-is ∙ w.tries_after-self.ensures)
    ]
