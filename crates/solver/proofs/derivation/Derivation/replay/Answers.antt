use Rattle.std.proofs.Common.{◌-◌, ◌<◌, ◌≤◌, length, refl, subst}
use Rattle.calls.specs.Steps.{steps_of}
use Rattle.solver.specs.Checking.{bounds_of}
use Rattle.solver.specs.Derivations.{standing_of}
use Rattle.solver.proofs.Replaying.{begins, all_passed, still_pending, none_pending, chained, bad_form, scarce}
use Rattle.solver.proofs.Replaying.{takeable, after_fall, after_step}
use Rattle.solver.proofs.derivation.Derivation.replay.Goals as goal

pub loop-i-init : goal.loop-i-init
loop-i-init g c =
    let s = c.args.self.now in
    record {
      depth = c.requires.begun.depth;
      replaying = begins g.L.PartialEq.eq (g.B.Book.entries s.book.now) s.goals.now
          (bounds_of (length c.args.record.now) c.args.room s.store.now.extent.used) s.store.now.cells.now
          s.store.now.work.now s.frames.now c.requires.ready (steps_of c.args.record.now) (standing_of s) c.requires.begun;
      same = record {
        book = refl;
        goals = refl;
        store = refl;
        lists = record { cells = refl; work = refl };
        as_many = refl;
        frames = refl;
      };
    }

pub returns-in_default-clause-replays : goal.returns-in_default-clause-replays
returns-in_default-clause-replays g c =
    rw c.number.ensures
    (none_pending g.L.PartialEq.eq g.met.L.Leaf.decides g.B.Book.entries g.met.B.Book.rules c.args.self.now
    c.loop-i.self c.args.room c.args.record.now c.loop-i.i c.loop-i.invariant c.loop-i-test.true c.in_default.is)

pub broken_rule-requires : goal.broken_rule-requires
broken_rule-requires g c =
    chained g.L.PartialEq.eq g.met.L.Leaf.decides g.B.Book.entries g.met.B.Book.rules c.args.self.now
    c.loop-i.self c.args.room c.args.record.now c.loop-i.i c.loop-i.invariant c.loop-i-test.true c.in-Some.goal c.in-Some.is

pub returns-in-Some-broken_rule-clause-replays : goal.returns-in-Some-broken_rule-clause-replays
returns-in-Some-broken_rule-clause-replays g c =
    rw c.number-in-Some-broken_rule.ensures
    (bad_form g.L.PartialEq.eq g.met.L.Leaf.decides g.B.Book.entries g.met.B.Book.rules c.args.self.now
    c.loop-i.self c.args.room c.args.record.now c.loop-i.i c.loop-i.invariant c.loop-i-test.true c.in-Some.goal c.in-Some.is
    c.in-Some-broken_rule.rule c.in-Some-broken_rule.ensures)

pub returns-then-room-self-clause-replays : goal.returns-then-room-self-clause-replays
returns-then-room-self-clause-replays g c =
    scarce g.L.PartialEq.eq g.met.L.Leaf.decides g.B.Book.entries g.met.B.Book.rules c.args.self.now
    c.loop-i.self c.args.room c.args.record.now c.loop-i.i c.loop-i.invariant c.loop-i-test.true c.in-Some.goal c.in-Some.is
    c.in_default-broken_rule.ensures
    (subst (λ k. c.args.room - c.loop-i.self.store.now.extent.used < k) c.cells_needed.ensures c.if-room-self.true)

pub take_step-requires : goal.take_step-requires
take_step-requires g c =
    takeable g.L.PartialEq.eq g.met.L.Leaf.decides g.B.Book.entries g.met.B.Book.rules c.args.self.now
    c.loop-i.self c.args.room c.args.record.now c.loop-i.i c.loop-i.invariant c.loop-i-test.true c.in-Some.goal c.in-Some.is
    c.in_default-broken_rule.ensures
    (subst (λ k. k ≤ c.args.room - c.loop-i.self.store.now.extent.used) c.cells_needed.ensures c.if-room-self.false)

pub returns-then-not-take_step-clause-replays : goal.returns-then-not-take_step-clause-replays
returns-then-not-take_step-clause-replays g c =
    rw c.number-then-not-take_step.ensures
    (after_fall g.L.PartialEq.eq g.met.L.Leaf.decides g.B.Book.entries g.met.B.Book.rules c.args.self.now
    c.loop-i.self c.args.room c.args.record.now c.loop-i.i c.loop-i.invariant c.loop-i-test.true c.in-Some.goal c.in-Some.is
    c.in_default-broken_rule.ensures
    (subst (λ k. k ≤ c.args.room - c.loop-i.self.store.now.extent.used) c.cells_needed.ensures c.if-room-self.false)
    c.take_step.new.self c.if-not-take_step.ensures.is)

pub loop-i-preserved : goal.loop-i-preserved
loop-i-preserved g c =
    after_step g.L.PartialEq.eq g.met.L.Leaf.decides g.B.Book.entries g.met.B.Book.rules c.args.self.now
    c.loop-i.self c.args.room c.args.record.now c.loop-i.i c.loop-i.invariant c.loop-i-test.true c.in-Some.goal c.in-Some.is
    c.in_default-broken_rule.ensures
    (subst (λ k. k ≤ c.args.room - c.loop-i.self.store.now.extent.used) c.cells_needed.ensures c.if-room-self.false)
    c.take_step.new.self c.if-not-take_step.ensures.same c.if-not-take_step.ensures.is

pub returns-in-None-clause-replays : goal.returns-in-None-clause-replays
returns-in-None-clause-replays g c =
    all_passed g.L.PartialEq.eq g.met.L.Leaf.decides g.B.Book.entries g.met.B.Book.rules c.args.self.now
    c.loop-i.self c.args.room c.args.record.now c.loop-i.i c.loop-i.invariant c.loop-i-test.false c.in-None.is

pub returns-in-Some-goal-clause-replays : goal.returns-in-Some-goal-clause-replays
returns-in-Some-goal-clause-replays g c =
    rw c.number-in-Some-goal.ensures
    (still_pending g.L.PartialEq.eq g.met.L.Leaf.decides g.B.Book.entries g.met.B.Book.rules c.args.self.now
    c.loop-i.self c.args.room c.args.record.now c.loop-i.i c.loop-i.invariant c.loop-i-test.false
    c.in-Some-goal.field-0 c.in-Some-goal.is c.loop-i.auto.i-end)
