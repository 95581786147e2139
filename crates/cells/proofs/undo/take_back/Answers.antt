use Rattle.std.proofs.Common.{◌≡◌, ◌-◌, length, take, ap, ◌∙◌, arith}
use Rattle.std.proofs.lemmas.List.{length_push, length-reverse}
use Rattle.std.proofs.lemmas.Iterator.Adapters.{YieldsList-from_rev_slice}
use Rattle.std.proofs.lemmas.Iterator.Consumers.{YieldsList-turn, YieldsList-end}
use Rattle.unify.specs.Unify.{clear}
use Rattle.cells.specs.Cells.{cells_of}
use Rattle.cells.proofs.Steps.{one_back}
use Rattle.cells.proofs.undo.take_back.Goals as goal

pub loop-cell-preserved : goal.loop-cell-preserved
loop-cell-preserved g c =
    let at = YieldsList-turn (YieldsList-from_rev_slice c.args.trail.now (cc)) c.loop-cell.yielded _ c.loop-cell.yielded_by _ _
    c.in-Some.cell c.in-Some.is c.next.ensures.steps in
    record {
      counted = c.rejoin.ensures.counted;
      as_many = c.rejoin.ensures.as_many ∙ c.loop-cell.invariant.as_many;
      left = ap (λ n. clear (take (length c.args.trail.now - n) c.args.trail.now) (cells_of c.rejoin.new.cells))
          (length_push c.loop-cell.yielded c.in-Some.cell)
          ∙ (one_back c.args.trail.now (length c.loop-cell.yielded) c.in-Some.cell.now at c.loop-cell.cells
          c.rejoin.new.cells c.rejoin.ensures.is ∙ c.loop-cell.invariant.left);
    }

pub returns-clause-is : goal.returns-clause-is
unfolding clear
returns-clause-is g c =
    let end = YieldsList-end (YieldsList-from_rev_slice c.args.trail.now (cc)) c.loop-cell.yielded _
    c.loop-cell.yielded_by _ _ c.in-None.is c.next.ensures.steps in
    let none : 0 ≡ length c.args.trail.now - length c.loop-cell.yielded = omega (arith, end.1, length-reverse c.args.trail.now) in
    ap (λ n. clear (take n c.args.trail.now) (cells_of c.loop-cell.cells)) none ∙ c.loop-cell.invariant.left
