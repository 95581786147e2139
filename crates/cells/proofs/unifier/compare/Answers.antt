use Rattle.std.proofs.Common.{◌≡◌, ◌++◌, length, take, drop, sym, ap, ◌∙◌, subst}
use Rattle.cells.specs.Cells.{cells_of, WellFormed}
use Rattle.cells.specs.Loops.{state, Told}
use Rattle.cells.proofs.Front.{front, front_as_many}
use Rattle.cells.proofs.Sameness.{decided}
use Rattle.cells.proofs.Steps.{told}
use Rattle.unify.specs.Solved.{Solved}
use Rattle.cells.proofs.unifier.compare.Goals as goal

pub returns : goal.returns
returns g c =
    let xs = c.args.cells.now in
    let old = take c.args.used xs in
    let came = c.join-met.ensures in
    let z = told g.L.PartialEq.eq (decided g.L.PartialEq.eq g.met.L.Leaf.decides) old c.args.work.now
    c.args.a c.args.b c.requires.given (state c.join-met.new.cells c.join-met.new.work c.join-met.result.1 came.is.0)
    _ came.is.1 in
    let many : length c.take_back.new.cells ≡ length old = c.take_back.ensures.as_many ∙ came.as_many in
    let e : take c.args.used (c.take_back.new.cells ++ drop c.args.used xs) ≡ c.take_back.new.cells =
    front c.args.used xs c.take_back.new.cells c.requires.part many in
    let left : cells_of c.take_back.new.cells ≡ cells_of old = c.take_back.ensures.is ∙ z.1 in
    record {
      told = subst (Told (cells_of old) c.args.a c.args.b) (sym c.is_ok.ensures.value) z.0;
      left = ap cells_of e ∙ left;
      sound = subst WellFormed (sym e) (record {
        solved = subst Solved (sym left) c.requires.given.sound.solved;
        counted = c.take_back.ensures.counted;
      });
      as_many = front_as_many c.args.used xs c.take_back.new.cells c.requires.part many;
    }
