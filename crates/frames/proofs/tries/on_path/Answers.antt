use Rattle.std.proofs.Common.{◌≡◌, suc, ap, ◌∙◌, subst, arith}
use Rattle.frames.specs.Goals.{above}
use Rattle.frames.specs.Tries.{Chain}
use Rattle.frames.proofs.Climbing.{chain_at, path_here, path_on, path_end}
use Rattle.frames.proofs.tries.on_path.Goals as goal

pub returns-then-step-number : goal.returns-then-step-number
returns-then-step-number c chain p =
    let w = c.loop-next.invariant.1 chain p in
    path_here c.args.frames.now w.0 c.in-Some.step c.args.number
    (subst (Chain c.args.frames.now w.0) c.in-Some.is w.1) c.if-step-number.true ∙ w.2

pub bounds-frames-step : goal.bounds-frames-step
bounds-frames-step c =
    let w = c.loop-next.invariant.0 in
    (chain_at c.args.frames.now w.0 c.in-Some.step
    (subst (Chain c.args.frames.now w.0) c.in-Some.is w.1)).0

pub loop-next-smaller : goal.loop-next-smaller
loop-next-smaller c =
    let w = c.loop-next.invariant.0 in
    let z = chain_at c.args.frames.now w.0 c.in-Some.step
    (subst (Chain c.args.frames.now w.0) c.in-Some.is w.1) in
    let low = z.1.lower in
    let e : above c.loop-next.next ≡ suc c.in-Some.step = ap above c.in-Some.is in
    omega arith

pub loop-next-preserved : goal.loop-next-preserved
loop-next-preserved c =
    let frames = c.args.frames.now in
    let w = c.loop-next.invariant.0 in
    let z = path_on frames w.0 c.in-Some.step c.args.number
    (subst (Chain frames w.0) c.in-Some.is w.1) c.if-step-number.false in (
      (z.0, z.1),
      λ chain p.
          let v = c.loop-next.invariant.1 chain p in
          let q = path_on frames v.0 c.in-Some.step c.args.number
          (subst (Chain frames v.0) c.in-Some.is v.1) c.if-step-number.false in
          (q.0, q.1, q.2 ∙ v.2),
    )

pub returns : goal.returns
returns c chain p =
    let w = c.loop-next.invariant.1 chain p in
    path_end c.args.frames.now w.0 c.loop-next.next c.args.number c.in_default.is w.1 ∙ w.2
