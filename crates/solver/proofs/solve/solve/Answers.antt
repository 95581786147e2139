use Rattle.std.proofs.Common.{◌≡◌, ◌*◌, ◌≤◌, min, length, take, Err, vec_items, vec_len, sym, refl, ap, ◌∙◌, subst, arith}
use base.Stored.{Coded-set}
use Rattle.std.proofs.lemmas.Result.{err_from_is_err_and}
use Rattle.theory.specs.Calls.{solve}
use Rattle.cells.specs.Cells.{cells_of, WellFormed}
use Rattle.slate.specs.Slates.{KeptOver}
use Rattle.cells.proofs.Front.{refill}
use Rattle.slate.proofs.Next.{sound_out}
use Rattle.slate.proofs.Answering.{as_used}
use Rattle.frames.specs.Points.{EndsAs}
use Rattle.searching.specs.Answering.{left_by}
use Rattle.solver.specs.declared.bounds.Bounds.{Bounds}
use Rattle.solver.specs.Searching.{limits_of, outcome_of, frame_steps}
use Rattle.solver.specs.Solver.{solved_or}
use Rattle.solver.proofs.Solving.{solve_too_long, solve_refused, solve_searched, refused_over, admitted_over}
use Rattle.solver.proofs.solve.solve.Goals as goal

pub returns-then-goals-gt-MOST_GOALS-clause-kept : goal.returns-then-goals-gt-MOST_GOALS-clause-kept
returns-then-goals-gt-MOST_GOALS-clause-kept g c =
    solve_too_long (Coded-set g.row.L.coded) g.L.PartialEq.eq g.met.L.Leaf.decides
    (g.B.Book.entries c.args.book.now) (g.met.B.Book.rules c.args.book.now) c.args.slate.now c.args.goals.now
    c.args.budget (length c.args.steps.now) (length c.args.work.now) (length c.args.frames.now)
    c.if-goals-gt-MOST_GOALS.true

pub admit-requires-clause-sound : goal.admit-requires-clause-sound
admit-requires-clause-sound g c =
    let s = c.args.slate.now in
    subst (λ l. WellFormed (take s.used l)) (sym c.as_slice.ensures.value)
    (sound_out (Coded-set g.row.L.coded) (take s.used (vec_items s.cells)) s.sound)

pub returns-in_err-admit-clause-kept : goal.returns-in_err-admit-clause-kept
returns-in_err-admit-clause-kept g c =
    let s = c.args.slate.now in
    let p = err_from_is_err_and c.from_residual.result c.from_residual.ensures.1 in
    let e : c.from_residual.result ≡ Err c.in_err-admit.field-0.0 = cc (p.1, p.2) in
    subst (λ r. KeptOver (g.B.Book.entries c.args.book.now) s s
    (solve c.args.goals.now c.args.budget (length c.args.steps.now) (length c.args.work.now)
    (length c.args.frames.now)) (solved_or c.args.steps.now r)) (sym e)
    (solve_refused (Coded-set g.row.L.coded) g.L.PartialEq.eq g.met.L.Leaf.decides
    (g.B.Book.entries c.args.book.now) (g.met.B.Book.rules c.args.book.now) s c.args.goals.now
    c.args.budget (length c.args.steps.now) (length c.args.work.now) (length c.args.frames.now)
    c.if-goals-gt-MOST_GOALS.false c.in_err-admit.field-0.0
    (refused_over s c.args.goals.now (length c.args.steps.now) (length c.args.work.now)
    (length c.args.frames.now) c.as_slice.result.now (length c.as_slice.result.now) c.min-served.result
    c.as_slice.ensures.value c.as_slice.ensures.len c.min-served.ensures c.in_err-admit.field-0.0
    c.in_err-admit.ensures))

pub run-end-requires : goal.run-end-requires
run-end-requires g c =
    let s = c.args.slate.now in
    let ok = c.in_ok-admit.ensures in
    let long : 9 * min (length c.as_slice.result.now) 2048 ≤ length c.args.work.now = ok.long in
    let n : length c.as_slice.result.now ≡ vec_len s.cells = c.as_slice.ensures.len in
    let m : c.min.result ≡ min c.len.result 2048 = c.min.ensures in
    let l : c.len.result ≡ vec_len s.cells = c.len.ensures in
    let v : length c.as_mut_slice.result.now ≡ vec_len s.cells = c.as_mut_slice.ensures.len in
    let w : c.min-served.result ≡ min (length c.args.steps.now) 4096 = c.min-served.ensures in
    record {
      basis = record {
        few_goals = c.if-goals-gt-MOST_GOALS.false;
        low = ok.low;
        begin = omega (arith, s.within, s.few);
        fits = omega arith;
        few = omega arith;
        long = omega arith;
        framed = ok.framed;
        short = omega arith;
      };
      sound =
          subst (λ x. WellFormed (take s.used x)) (sym c.as_mut_slice.ensures.value)
          (sound_out (Coded-set g.row.L.coded) (take s.used (vec_items s.cells)) s.sound);
    }

pub returns-clause-kept : goal.returns-clause-kept
returns-clause-kept g c =
    let s = c.args.slate.now in
    let ws = c.run-end.new.cells in
    let alike = g.L.PartialEq.eq in
    let book = g.B.Book.entries c.args.book.now in
    let end = c.run-end.result in
    let o = outcome_of end.ending end.count (frame_steps (take end.depth c.run-end.new.frames)) in
    let b : Bounds = record {
      budget = c.args.budget;
      steps = c.min-served.result;
      cells = c.min.result;
      first = s.used;
    } in
    subst (KeptOver book s _
    (solve c.args.goals.now c.args.budget (length c.args.steps.now) (length c.args.work.now)
    (length c.args.frames.now))) (sym c.conclude.ensures.is)
    (solve_searched (Coded-set g.row.L.coded) alike g.met.L.Leaf.decides book
    (g.met.B.Book.rules c.args.book.now) s c.args.goals.now c.args.budget (length c.args.steps.now)
    (length c.args.work.now) (length c.args.frames.now) c.if-goals-gt-MOST_GOALS.false
    b refl c.min-served.ensures (c.min.ensures ∙ ap (λ k. min k 2048) c.len.ensures) (sym (as_used s)) s.used
    (admitted_over s c.args.goals.now (length c.args.steps.now) (length c.args.work.now)
    (length c.args.frames.now) c.as_slice.result.now (length c.as_slice.result.now) c.min-served.result
    c.as_slice.ensures.value c.as_slice.ensures.len c.min-served.ensures c.in_ok-admit.ensures)
    o c.run-end.ensures.last
    (subst (λ x. EndsAs alike book c.args.goals.now s.used (cells_of (take s.used x)) (limits_of b) o
    c.run-end.ensures.last) c.as_mut_slice.ensures.value c.run-end.ensures.ends)
    _
    (ap (λ x. cells_of (take end.used x))
    (refill (vec_len s.cells) (vec_items s.cells) ws s.cells.ok.0
    (c.run-end.ensures.as_many ∙ ap length c.as_mut_slice.ensures.value))
    ∙ (c.run-end.ensures.left
    ∙ ap (λ x. left_by (cells_of (take s.used x)) c.run-end.ensures.last o) c.as_mut_slice.ensures.value))
    refl)
