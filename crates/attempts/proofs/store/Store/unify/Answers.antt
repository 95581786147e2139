use Rattle.std.proofs.Common.{◌≡◌, ◌-◌, ◌≤◌, length, take, drop, refl, ◌∙◌, arith, length-drop, length-take}
use Rattle.cells.specs.Cells.{cells_of}
use Rattle.attempts.proofs.Fronts.{behind_more, behind_long}
use Rattle.attempts.proofs.store.Store.unify.Goals as goal

pub returns-in-Some-clause-is : goal.returns-in-Some-clause-is
returns-in-Some-clause-is g c =
    let at = c.args.self.now.extent.trail in
    let work = c.args.self.now.work.now in
    let cells' = c.unify.new.cells in
    let ys = c.unify.new.work in
    let u = c.in-Some.ensures.unifies in
    let h : at ≤ length work = omega (arith, c.requires.room) in
    let long : length ys ≡ length work - at = c.unify.auto.work
    ∙ omega (arith, length-take (length work - at) (drop at work), length-drop at work) in
    let inside : c.in-Some.joined ≤ length ys = c.in-Some.ensures.inside in
    let whole = behind_long at work ys h long in
    record {
      joined = (
        record { cells = cells_of (take c.args.used cells'); trail = take c.in-Some.joined ys; place = u.0 },
        u.1,
        refl,
        behind_more at work ys h c.in-Some.joined inside,
      );
      sound = c.unify.ensures.sound;
      room = omega (arith, whole, long, inside);
      as_many = c.unify.ensures.as_many;
      as_long = whole;
    }
