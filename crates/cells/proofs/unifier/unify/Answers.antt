use Rattle.std.proofs.Common.{◌≡◌, ◌<◌, true, false, [], take, sym, ◌∙◌, subst}
use Rattle.std.specs.List.{AllByRecursion}
use Rattle.unify.specs.Unify.{join}
use Rattle.cells.specs.Cells.{cells_of}
use Rattle.cells.specs.Loops.{state, moved}
use Rattle.cells.proofs.Sameness.{decided}
use Rattle.cells.proofs.Steps.{number, agreed, refused, unified}
use Rattle.cells.proofs.unifier.unify.Goals as goal

pub returns-then-is_ok : goal.returns-then-is_ok
returns-then-is_ok g c =
    let same = g.L.PartialEq.eq in
    let law = decided same g.met.L.Leaf.decides in
    let old = take c.args.used c.args.cells.now in
    let came = c.join-met.ensures in
    let s = state c.join-met.new.cells c.join-met.new.work c.join-met.result.1 came.is.0 in
    let z = agreed same law old c.args.work.now c.args.a c.args.b c.requires.given s
    (subst (λ r. moved r s ≡ join same true (cells_of old) c.args.a c.args.b) (sym c.if-is_ok.ensures.value) came.is.1) in
    let u = unified same law c.args.used c.args.cells.now c.requires.part c.args.work.now c.args.a c.args.b
    c.requires.given c.join-met.new.cells s.trail true z came.ready.counted came.as_many in
    record { unifies = u.0; did = u.1; sound = u.2; as_many = u.3; inside = came.ready.part }

pub take_back-requires-clause-inside : goal.take_back-requires-clause-inside
take_back-requires-clause-inside g c =
    subst (λ n. AllByRecursion (λ i. i < n) (take c.join-met.result.1 c.join-met.new.work))
    (number c.join-met.new.cells) c.join-met.ensures.ready.steady.trailed

pub returns : goal.returns
returns g c =
    let same = g.L.PartialEq.eq in
    let law = decided same g.met.L.Leaf.decides in
    let old = take c.args.used c.args.cells.now in
    let came = c.join-met.ensures in
    let s = state c.join-met.new.cells c.join-met.new.work c.join-met.result.1 came.is.0 in
    let z = refused same law old c.args.work.now c.args.a c.args.b c.requires.given s
    (subst (λ r. moved r s ≡ join same true (cells_of old) c.args.a c.args.b) (sym c.if-is_ok.ensures.value) came.is.1)
    (cells_of c.take_back.new.cells) c.take_back.ensures.is [] in
    let u = unified same law c.args.used c.args.cells.now c.requires.part c.args.work.now c.args.a c.args.b
    c.requires.given c.take_back.new.cells [] false z c.take_back.ensures.counted
    (c.take_back.ensures.as_many ∙ came.as_many) in
    record { unifies = u.0; did = u.1; sound = u.2; as_many = u.3; inside = tt }
