use Rattle.std.proofs.Common.{take, sym, refl, ◌∙◌}
use Rattle.cells.specs.Cells.{cells_of}
use Rattle.solver.proofs.Admitting.{one_atom, no_atom, none_left}
use Rattle.solver.proofs.input.all_atoms.Goals as goal

pub returns-then-not-node_at_root : goal.returns-then-not-node_at_root
returns-then-not-node_at_root g c = (
  _,
  refl,
  sym c.loop-goal.invariant
      ∙ no_atom (cells_of (take c.args.used c.args.cells.now)) c.args.goals.now c.loop-goal.goal-index
      c.loop-goal-test.true c.if-not-node_at_root.ensures,
)

pub loop-goal-preserved : goal.loop-goal-preserved
loop-goal-preserved g c =
    one_atom (cells_of (take c.args.used c.args.cells.now)) c.args.goals.now c.loop-goal.goal-index
    c.loop-goal-test.true c.if-not-node_at_root.ensures ∙ c.loop-goal.invariant

pub returns : goal.returns
returns g c =
    sym c.loop-goal.invariant
    ∙ none_left (cells_of (take c.args.used c.args.cells.now)) c.args.goals.now c.loop-goal.goal-index
    c.loop-goal-test.false
