use Rattle.solver.proofs.Recording.{granted_record}
use Rattle.solver.proofs.conclude.conclude.Goals as goal

pub returns-in-Ok : goal.returns-in-Ok
returns-in-Ok c =
    granted_record c.args.end c.args.frames.now c.args.steps.now c.write_record.new.steps c.in-Ok.is
    c.requires.room c.requires.framed c.write_record.ensures
