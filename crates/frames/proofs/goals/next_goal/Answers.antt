use Rattle.std.proofs.Common.{◌≡◌, ℕ, suc, ◌+◌, ◌≤◌, List, get_or, sym, ap, subst, add-one, arith}
use Rattle.theory.specs.Records as T
use Rattle.frames.specs.declared.frame.Frame.{Frame}
use Rattle.frames.specs.Goals.{above, Pends, Pending, First}
use Rattle.frames.proofs.Following.{unset, frame_at, found, onward, last_goals}
use Rattle.frames.proofs.goals.next_goal.Goals as goal

pub bounds-frames-step : goal.bounds-frames-step
bounds-frames-step g c =
    let book = g.B.Book.entries c.args.book.now in
    (frame_at book (g.met.B.Book.rules c.args.book.now) c.args.goals.now c.args.frames.now c.in-Some.step
    c.loop-parent.at
    (subst (λ p. Pending book c.args.goals.now c.args.frames.now p c.loop-parent.at) c.in-Some.is
    c.loop-parent.invariant.0)).0

pub goal_of_step-requires : goal.goal_of_step-requires
goal_of_step-requires g c =
    let book = g.B.Book.entries c.args.book.now in
    (frame_at book (g.met.B.Book.rules c.args.book.now) c.args.goals.now c.args.frames.now c.in-Some.step
    c.loop-parent.at
    (subst (λ p. Pending book c.args.goals.now c.args.frames.now p c.loop-parent.at) c.in-Some.is
    c.loop-parent.invariant.0)).2.small

pub returns-in-Some-goal_of_step : goal.returns-in-Some-goal_of_step
returns-in-Some-goal_of_step g c chain l p =
    let book = g.B.Book.entries c.args.book.now in
    let rules = g.met.B.Book.rules c.args.book.now in
    let goals = c.args.goals.now in
    let frames = c.args.frames.now in
    let here = c.in-Some.is in
    let z = frame_at book rules goals frames c.in-Some.step c.loop-parent.at
    (subst (λ q. Pending book goals frames q c.loop-parent.at) here c.loop-parent.invariant.0) in
    let w = c.loop-parent.invariant.2 chain l p in
    found book rules goals frames w.0 c.in-Some.step c.loop-parent.at l
    (subst (λ q. Pends book goals frames w.0 q c.loop-parent.at l) here w.1)
    (get_or frames c.in-Some.step unset) z.1 c.args.from
    (subst (λ q. above q ≤ above c.args.from) here c.loop-parent.invariant.1)
    c.in-Some-goal_of_step.goal c.in-Some-goal_of_step.ensures

pub overflow_add-at : goal.overflow_add-at
overflow_add-at g c =
    let book = g.B.Book.entries c.args.book.now in
    let h = (frame_at book (g.met.B.Book.rules c.args.book.now) c.args.goals.now c.args.frames.now
    c.in-Some.step c.loop-parent.at
    (subst (λ p. Pending book c.args.goals.now c.args.frames.now p c.loop-parent.at) c.in-Some.is
    c.loop-parent.invariant.0)).2.few in
    omega arith

pub loop-parent-smaller : goal.loop-parent-smaller
loop-parent-smaller g c =
    let book = g.B.Book.entries c.args.book.now in
    let h = (frame_at book (g.met.B.Book.rules c.args.book.now) c.args.goals.now c.args.frames.now
    c.in-Some.step c.loop-parent.at
    (subst (λ p. Pending book c.args.goals.now c.args.frames.now p c.loop-parent.at) c.in-Some.is
    c.loop-parent.invariant.0)).2.lower in
    let e : above c.loop-parent.parent ≡ suc c.in-Some.step = ap above c.in-Some.is in
    omega arith

pub loop-parent-preserved : goal.loop-parent-preserved
loop-parent-preserved g c =
    let book = g.B.Book.entries c.args.book.now in
    let rules = g.met.B.Book.rules c.args.book.now in
    let goals = c.args.goals.now in
    let frames = c.args.frames.now in
    let here = c.in-Some.is in
    let j = c.loop-parent.at in
    let f : Frame = get_or frames c.in-Some.step unset in
    let z = frame_at book rules goals frames c.in-Some.step j
    (subst (λ q. Pending book goals frames q j) here c.loop-parent.invariant.0) in
    let low : above f.goal.parent ≤ c.in-Some.step = z.2.lower in
    let e : above c.loop-parent.parent ≡ suc c.in-Some.step = ap above here in
    let up : above c.loop-parent.parent ≤ above c.args.from = c.loop-parent.invariant.1 in
    let on : (chain : List ℕ) (l : List T.Goal) → Pends book goals frames chain c.loop-parent.parent j l →
    (chain' : List ℕ) × Pends book goals frames chain' f.goal.parent (f.goal.place + 1) l =
    λ chain l q.
    let w = onward book rules goals frames chain c.in-Some.step j l
    (subst (λ p. Pends book goals frames chain p j l) here q) f z.1 c.in_default-goal_of_step.ensures in
    (w.0, subst (λ k. Pends book goals frames w.0 f.goal.parent k l) (sym (add-one f.goal.place)) w.1) in
    let p = c.loop-parent.invariant.0 in
    let q = on p.0 p.1 p.3 in (
      (q.0, p.1, p.2, q.1),
      omega arith,
      λ chain l r. let w = c.loop-parent.invariant.2 chain l r in on w.0 l w.1,
    )

pub returns : goal.returns
returns g c chain l p =
    let book = g.B.Book.entries c.args.book.now in
    let goals = c.args.goals.now in
    let frames = c.args.frames.now in
    let w = c.loop-parent.invariant.2 chain l p in
    subst (λ r. First book goals frames c.args.from r l) (sym c.goal_of_list.ensures)
    (last_goals book (g.met.B.Book.rules c.args.book.now) goals frames w.0 c.loop-parent.at l
    c.loop-parent.invariant.0.2
    (subst (λ q. Pends book goals frames w.0 q c.loop-parent.at l) c.in_default.is w.1) c.args.from)
