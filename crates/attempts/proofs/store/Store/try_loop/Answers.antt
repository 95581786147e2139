use Rattle.std.proofs.Common.{◌≤◌, [], length, refl, le_refl, arith}
use Rattle.searching.specs.Trying.{copied}
use Rattle.attempts.proofs.Tries.{attempted}
use Rattle.attempts.proofs.store.Store.try_loop.Goals as goal

pub returns-clause-is : goal.returns-clause-is
unfolding copied
returns-clause-is g c =
    let s = c.args.self.now in
    let s' = c.unify.new.self in
    let within : s.extent.used ≤ length s.cells.now = omega (arith, c.requires.tryable.fits) in
    attempted g.L.PartialEq.eq [] c.args.goal c.args.earlier c.args.earlier refl s.cells.now s.cells.now s'.cells.now
    s.work.now s'.work.now s.extent s'.extent s.extent.used within (le_refl _) within refl refl
    c.requires.tryable.sound c.unify.result c.unify.ensures.stands c.unify.ensures.falls c.unify.ensures.is
