use Rattle.std.proofs.Common.{◌≡◌, ◌+◌, ◌≤◌, ap, ◌∙◌, sym, subst}
use Rattle.std.proofs.lemmas.Result.{err_from_is_err_and}
use Rattle.unify.specs.Unify.{pay, rest, went}
use Rattle.cells.specs.Loops.{at_place}
use Rattle.cells.proofs.Steps.{borrows_on, taken_at, taken_ready, end_of_trail, turn_went, turn_clash}
use Rattle.cells.proofs.joins.Joins.settle.Goals as goal

pub returns-in_err-pay : goal.returns-in_err-pay
returns-in_err-pay g c =
    let j = c.loop-cell.self in
    let e = c.in-Some.ensures.entry in
    let s = c.in_err-pay.ensures in
    let new = c.pay.new.self in
    rw ((err_from_is_err_and c.from_residual.result c.from_residual.ensures.1).1) (record {
      is = (
        j.paid,
        turn_clash g.L.PartialEq.eq j.open_joins j.cells.now j.trail.now j.used c.loop-cell.invariant.ready
            j.paid e.0 new.cells.now new.trail.now new.used
            (s.is j.paid ∙ (λ k. pay g.L.PartialEq.eq (c.in-Some.ensures.borrows.open_joins k)
            (taken_at j c.next.new.self _ c.in-Some.ensures j.paid k) (e.1 k))) ∙ c.loop-cell.invariant.is,
      );
      ready = s.ready;
      borrows = borrows_on c.loop-cell.invariant.borrows
          (borrows_on c.in-Some.ensures.borrows s.keeps.borrows);
    })

pub loop-cell-preserved : goal.loop-cell-preserved
loop-cell-preserved g c =
    let j = c.loop-cell.self in
    let e = c.in-Some.ensures.entry in
    let s = c.in_ok-pay.ensures in
    let new = c.pay.new.self in
    let paid : new.paid ≡ j.paid + 1 = s.keeps.paid ∙ e.2 in
    let t = turn_went g.L.PartialEq.eq j.open_joins j.cells.now j.trail.now j.used
    c.loop-cell.invariant.ready j.paid e.0 new.cells.now new.trail.now new.used s.ready
    (s.is j.paid ∙ (λ k. pay g.L.PartialEq.eq (c.in-Some.ensures.borrows.open_joins k) (taken_at j c.next.new.self _ c.in-Some.ensures j.paid k) (e.1 k))) in
    let b = borrows_on c.in-Some.ensures.borrows s.keeps.borrows in
    record {
      ready = s.ready;
      borrows = borrows_on c.loop-cell.invariant.borrows b;
      part = subst (λ m. m ≤ new.used) (sym paid) t.0;
      is = (λ k. rest g.L.PartialEq.eq (b.open_joins k) (at_place new (paid k))) ∙ (t.1 ∙ c.loop-cell.invariant.is);
    }

pub returns : goal.returns
returns g c =
    let j = c.loop-cell.self in
    let t = c.in_default.ensures in
    record {
      is = (
        j.paid,
        ap went (taken_at j c.next.new.self _ t j.paid)
            ∙ (end_of_trail g.L.PartialEq.eq j.open_joins j.cells.now j.trail.now j.used
            c.loop-cell.invariant.ready j.paid t.entry.0 ∙ c.loop-cell.invariant.is),
      );
      ready = taken_ready j c.next.new.self _ t c.loop-cell.invariant.ready;
      borrows = borrows_on c.loop-cell.invariant.borrows t.borrows;
    }
