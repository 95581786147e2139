use Rattle.std.proofs.Common.{take, sym, subst, subst₂}
use Rattle.cells.specs.Cells.{cells_of}
use Rattle.solver.specs.declared.search.Search.{Search}
use Rattle.solver.specs.Searching.{Running, Finished}
use Rattle.solver.specs.Runs.{Ran}
use Rattle.solver.specs.Derivations.{standing_of, moment_of}
use Rattle.solver.proofs.Rounds.{begins, begins_over, rewindable, grants, leaves}
use Rattle.solver.proofs.search.Search.finish.Goals as goal
use Rattle.solver.proofs.search.Search.finish.Goals.{then-is_err, else-is_err}

pub run-ending-requires : goal.run-ending-requires
run-ending-requires g c =
    let s = c.args.self.now in
    let d = s.derivation.now in
    let alike = g.L.PartialEq.eq in
    let book = g.B.Book.entries d.book.now in
    let over = begins_over alike book d.goals.now s.bounds d.store.now.cells.now d.store.now.work.now d.frames.now c.requires.ready
    (standing_of d) c.requires.begun s.cursor c.requires.first in
    subst₂ (λ z k. Running alike book d.goals.now s.bounds z d.store.now.cells.now d.store.now.work.now d.frames.now
    (record { at = standing_of d; cursor = s.cursor; count = k })) (sym over) (sym c.requires.untried)
    (begins alike book d.goals.now s.bounds d.store.now.cells.now d.store.now.work.now d.frames.now c.requires.ready
    (standing_of d) c.requires.begun s.cursor c.requires.first)

pub retract-requires : goal.retract-requires
retract-requires g c =
    let s = c.args.self.now in
    let d = s.derivation.now in
    let alike = g.L.PartialEq.eq in
    let book = g.B.Book.entries d.book.now in
    let over = begins_over alike book d.goals.now s.bounds d.store.now.cells.now d.store.now.work.now d.frames.now c.requires.ready
    (standing_of d) c.requires.begun s.cursor c.requires.first in
    let s' = c.run-ending.new.self in
    let d' = s'.derivation.now in
    let done = subst (λ z. Finished alike book d.goals.now s.bounds z d'.store.now.cells.now d'.store.now.work.now d'.frames.now
    (moment_of s') c.run-ending.result) over c.run-ending.ensures.ended in
    rewindable alike book d.goals.now s.bounds d.store.now.cells.now d.store.now.work.now d.frames.now c.requires.ready
    d'.store.now.cells.now d'.store.now.work.now d'.frames.now (moment_of s') c.run-ending.result done

pub returns-clause-ran : goal.returns-clause-ran
returns-clause-ran g c =
    let s = c.args.self.now in
    let d = s.derivation.now in
    let alike = g.L.PartialEq.eq in
    let book = g.B.Book.entries d.book.now in
    let over = begins_over alike book d.goals.now s.bounds d.store.now.cells.now d.store.now.work.now d.frames.now c.requires.ready
    (standing_of d) c.requires.begun s.cursor c.requires.first in
    let s' = c.run-ending.new.self in
    let d' = s'.derivation.now in
    let done = subst (λ z. Finished alike book d.goals.now s.bounds z d'.store.now.cells.now d'.store.now.work.now d'.frames.now
    (moment_of s') c.run-ending.result) over c.run-ending.ensures.ended in
    let many = c.run-ending.ensures.same.over.as_many in
    let left = λ (z : Search _ _). Ran alike book d.goals.now s.bounds (cells_of (take s.bounds.first d.store.now.cells.now))
    d.store.now.cells.now z.derivation.now.store.now.cells.now z.derivation.now.frames.now (record {
      ending = c.run-ending.result;
      count = z.count;
      depth = z.derivation.now.depth;
      used = z.derivation.now.store.now.extent.used;
    }) in
    elim c.if-is_err.branch [
      | then-is_err w ↦
          subst left (sym w.self-is) (leaves alike book d.goals.now s.bounds d.store.now.cells.now d.store.now.work.now d.frames.now c.requires.ready
          d'.store.now.cells.now d'.store.now.work.now d'.frames.now (moment_of s') c.run-ending.result done
          many (sym w.if-is_err.ensures.value) w.retract.new.self.cells.now w.retract.ensures.is
          w.retract.new.self.extent w.retract.ensures.extent)
      | else-is_err w ↦
          subst left (sym w.self-is) (grants alike book d.goals.now s.bounds d.store.now.cells.now d.store.now.work.now d.frames.now c.requires.ready
          d'.store.now.cells.now d'.store.now.work.now d'.frames.now (moment_of s') c.run-ending.result done
          many (sym w.if-is_err.ensures.value))
    ]
