use Rattle.std.proofs.Common.{length, drop, sym, ◌∙◌}
use Rattle.std.proofs.lemmas.List.{length_push}
use Rattle.std.proofs.lemmas.Result.{err_from_is_err_and}
use Rattle.std.proofs.lemmas.Slice.Zip.{zip_turn, zip_end}
use Rattle.unify.specs.Unify.{meet_all}
use Rattle.cells.specs.Loops.{at_place}
use Rattle.cells.proofs.Steps.{one_pair, one_clash, no_pair, keeps_on}
use Rattle.cells.proofs.joins.Joins.meet_all.Goals as goal

pub returns-in_err-meet : goal.returns-in_err-meet
returns-in_err-meet g c =
    let at = zip_turn c.args.xs.now c.args.ys.now c.loop-x.yielded c.into_iter-x-iterator.result
    c.loop-x.x-iterator c.next.new.self _ (cc) (cc) c.loop-x.yielded_by (c.in-Some.x, c.in-Some.y)
    c.in-Some.is c.next.ensures.steps in
    let j = c.loop-x.self in
    let s = c.in_err-meet.ensures in
    rw ((err_from_is_err_and c.from_residual.result c.from_residual.ensures.1).1) (record {
      is = λ place. one_clash g.L.PartialEq.eq j.open_joins c.args.xs.now c.args.ys.now (at_place j place)
          (at_place c.meet.new.self place) (length c.loop-x.yielded) c.in-Some.x.now c.in-Some.y.now at
          (sym (s.is place)) ∙ c.loop-x.invariant.is place;
      ready = s.ready;
      keeps = keeps_on c.loop-x.invariant.keeps s.keeps;
    })

pub loop-x-preserved : goal.loop-x-preserved
loop-x-preserved g c =
    let at = zip_turn c.args.xs.now c.args.ys.now c.loop-x.yielded c.into_iter-x-iterator.result
    c.loop-x.x-iterator c.next.new.self _ (cc) (cc) c.loop-x.yielded_by (c.in-Some.x, c.in-Some.y)
    c.in-Some.is c.next.ensures.steps in
    let j = c.loop-x.self in
    let s = c.in_ok-meet.ensures in
    let new = c.meet.new.self in
    record {
      ready = s.ready;
      keeps = keeps_on c.loop-x.invariant.keeps s.keeps;
      is = λ place. (λ k. meet_all g.L.PartialEq.eq (s.keeps.borrows.open_joins k) (at_place new place)
          (drop (length_push c.loop-x.yielded (c.in-Some.x, c.in-Some.y) k) c.args.xs.now)
          (drop (length_push c.loop-x.yielded (c.in-Some.x, c.in-Some.y) k) c.args.ys.now))
          ∙ (one_pair g.L.PartialEq.eq j.open_joins c.args.xs.now c.args.ys.now (at_place j place) (at_place new place)
          (length c.loop-x.yielded) c.in-Some.x.now c.in-Some.y.now at (sym (s.is place)) ∙ c.loop-x.invariant.is place);
    }

pub returns : goal.returns
returns g c =
    let end = zip_end c.args.xs.now c.args.ys.now c.loop-x.yielded c.into_iter-x-iterator.result
    c.loop-x.x-iterator c.next.new.self _ (cc) (cc) c.loop-x.yielded_by c.in-None.is
    c.next.ensures.steps in
    record {
      is = λ place. no_pair g.L.PartialEq.eq c.loop-x.self.open_joins c.args.xs.now c.args.ys.now
          (at_place c.loop-x.self place) (length c.loop-x.yielded) end ∙ c.loop-x.invariant.is place;
      ready = c.loop-x.invariant.ready;
      keeps = c.loop-x.invariant.keeps;
    }
