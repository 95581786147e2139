use Rattle.std.proofs.Common.{sym, ap, ◌∙◌, subst}
use Rattle.std.proofs.lemmas.Result.{err_from_is_err_and}
use Rattle.unify.specs.Unify.{rest}
use Rattle.cells.specs.Loops.{Ready, at_place}
use Rattle.cells.proofs.Steps.{start_ready, borrows_on, join_clash, join_went}
use Rattle.cells.proofs.joins.Joins.join.Goals as goal

pub meet-requires-clause-ready : goal.meet-requires-clause-ready
meet-requires-clause-ready g c =
    let j = c.args.self.now in
    subst (Ready j.cells.now j.trail.now) (sym c.requires.none) (start_ready _ _
    c.requires.given.sound.solved c.requires.given.sound.counted c.requires.given.list)

pub returns-in_err-meet-clause-came : goal.returns-in_err-meet-clause-came
returns-in_err-meet-clause-came g c =
    let j = c.args.self.now in
    let s = c.in_err-meet.ensures in
    rw ((err_from_is_err_and c.from_residual.result c.from_residual.ensures.1).1) (record {
      is = (
        0,
        join_clash g.L.PartialEq.eq j.open_joins j.cells.now j.trail.now j.used c.requires.none c.args.a
            c.args.b (at_place c.meet.new.self 0) (s.is 0),
      );
      ready = s.ready;
      borrows = s.keeps.borrows;
    })

pub returns-clause-came : goal.returns-clause-came
returns-clause-came g c =
    let j = c.args.self.now in
    let s = c.in_ok-meet.ensures in
    record {
      is = (
        c.settle.ensures.is.0,
        c.settle.ensures.is.1
            ∙ (ap (λ o. rest g.L.PartialEq.eq o (at_place c.meet.new.self 0)) s.keeps.borrows.open_joins
            ∙ join_went g.L.PartialEq.eq j.open_joins j.cells.now j.trail.now j.used c.requires.none c.args.a
            c.args.b (at_place c.meet.new.self 0) (s.is 0)),
      );
      ready = c.settle.ensures.ready;
      borrows = borrows_on s.keeps.borrows c.settle.ensures.borrows;
    }
