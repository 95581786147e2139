use Rattle.std.proofs.Common.{◌<◌, ◌≤◌, length, arith}
use Rattle.solver.proofs.Recording.{one_written}
use Rattle.solver.proofs.conclude.write_record.Goals as goal

pub loop-i-preserved : goal.loop-i-preserved
loop-i-preserved c =
    one_written c.args.frames.now c.args.steps.now c.loop-i.steps c.loop-i.i c.loop-i.invariant c.loop-i-test.true
    (let h : length c.args.frames.now ≤ length c.args.steps.now = c.requires in
    let k : c.loop-i.i < length c.args.frames.now = c.loop-i-test.true in omega arith)
