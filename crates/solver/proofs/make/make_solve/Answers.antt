use Rattle.std.proofs.Common.{length, refl}
use Rattle.theory.specs.Calls.{solve}
use Rattle.solver.specs.Solver.{solved_or}
use Rattle.solver.proofs.Sittings.{made_over}
use Rattle.solver.proofs.make.make_solve.Goals as goal

pub returns : goal.returns
returns g c =
    made_over (g.B.Book.entries c.args.book.now) (g.met.B.Book.rules c.args.book.now) c.args.slate.now
    c.solve-result.new.slate
    (solve c.args.goals.now c.args.budget (length c.args.steps.now) (length c.args.work.now)
    (length c.args.frames.now)) _ (solved_or c.solve-result.new.steps c.solve-result.result) refl
    c.solved.result c.solve-result.ensures.kept c.solved.ensures
