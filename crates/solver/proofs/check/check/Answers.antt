use Rattle.std.proofs.Common.{◌≡◌, ◌-◌, min, ◌++◌, length, take, drop, Ok, Err, vec_items, vec_len, sym, refl, ap, ◌∙◌, subst, inl, inr}
use base.Stored.{Coded-set}
use Rattle.std.proofs.lemmas.Result.{err_from_is_err_and}
use Rattle.theory.specs.Calls.{check}
use Rattle.theory.specs.Answers.{capacity, answer_to}
use Rattle.searching.specs.Checking.{checks}
use Rattle.cells.specs.Cells.{cells_of, WellFormed}
use Rattle.calls.specs.Steps.{steps_of}
use Rattle.slate.specs.Slates.{in_use, KeptOver}
use Rattle.cells.proofs.Front.{refill}
use Rattle.slate.proofs.Questions.{sound_of}
use Rattle.solver.specs.Admission.{Admitted}
use Rattle.solver.specs.Runs.{Ready}
use Rattle.solver.specs.Checking.{passes_or, bounds_of}
use Rattle.solver.proofs.Checked.{long_kept, refused_kept, replayed_kept, over_slate, ready_for}
use Rattle.solver.proofs.check.check.Goals as goal
use Rattle.solver.proofs.check.check.Goals.{then-goals-gt-MOST_GOALS-via-then-goals-gt-MOST_GOALS}
use Rattle.solver.proofs.check.check.Goals.{then-goals-gt-MOST_GOALS-via-else-goals-gt-MOST_GOALS+then-record-gt-MOST_STEPS}

pub returns-then-goals-gt-MOST_GOALS-clause-kept : goal.returns-then-goals-gt-MOST_GOALS-clause-kept
returns-then-goals-gt-MOST_GOALS-clause-kept g c =
    long_kept (Coded-set g.row.L.coded) g.L.PartialEq.eq g.met.L.Leaf.decides
    (g.B.Book.entries c.args.book.now) (g.met.B.Book.rules c.args.book.now) c.args.slate.now
    c.args.goals.now c.args.record.now (length c.args.work.now) (length c.args.frames.now)
    (elim c.then-goals-gt-MOST_GOALS.branch [
      | then-goals-gt-MOST_GOALS-via-then-goals-gt-MOST_GOALS w ↦ inl w.if-goals-gt-MOST_GOALS.true
      | then-goals-gt-MOST_GOALS-via-else-goals-gt-MOST_GOALS+then-record-gt-MOST_STEPS w ↦ inr w.if-record-gt-MOST_STEPS.true
    ])

pub admit-requires-clause-sound : goal.admit-requires-clause-sound
admit-requires-clause-sound g c =
    let s = c.args.slate.now in
    subst (λ l. WellFormed (take s.used l)) (sym c.as_slice.ensures.value)
    (sound_of (Coded-set g.row.L.coded) s)

pub returns-in_err-admit-clause-kept : goal.returns-in_err-admit-clause-kept
returns-in_err-admit-clause-kept g c =
    let s = c.args.slate.now in
    let p = err_from_is_err_and c.from_residual.result c.from_residual.ensures.1 in
    let e : c.from_residual.result ≡ Err c.in_err-admit.field-0.0 = cc (p.1, p.2) in
    subst (λ r. KeptOver (g.B.Book.entries c.args.book.now) s s
    (check c.args.goals.now (steps_of c.args.record.now) (length c.args.work.now)
    (length c.args.frames.now)) (passes_or r)) (sym e)
    (refused_kept (Coded-set g.row.L.coded) g.L.PartialEq.eq g.met.L.Leaf.decides
    (g.B.Book.entries c.args.book.now) (g.met.B.Book.rules c.args.book.now) s
    c.args.goals.now c.args.record.now (length c.args.work.now) (length c.args.frames.now)
    c.if-goals-gt-MOST_GOALS.false c.if-record-gt-MOST_STEPS.false c.in_err-admit.field-0.0
    (over_slate {U = Unit {0}} s c.as_slice.result.now c.as_slice.ensures.value c.args.goals.now
    (length c.args.work.now) (length c.args.frames.now) (length c.args.record.now) (Err _)
    c.in_err-admit.ensures))

pub replay_and_retract-requires : goal.replay_and_retract-requires
replay_and_retract-requires g c =
    let s = c.args.slate.now in
    let ok : Admitted (in_use s) s.used (vec_len s.cells) c.args.goals.now (length c.args.work.now)
    (length c.args.frames.now) (length c.args.record.now) =
    over_slate {U = Unit {0}} s c.as_slice.result.now c.as_slice.ensures.value c.args.goals.now
    (length c.args.work.now) (length c.args.frames.now) (length c.args.record.now) (Ok (tt {0}))
    c.in_ok-admit.ensures in
    let room : c.min-room.result ≡ capacity (vec_len s.cells) =
    c.min-room.ensures ∙ ap (λ k. min k 2048) c.len.ensures in
    subst (λ k. Ready c.args.goals.now (bounds_of (length c.args.record.now) k s.used)
    c.as_mut_slice.result.now c.args.work.now c.args.frames.now) (sym room)
    (subst (λ l. Ready c.args.goals.now
    (bounds_of (length c.args.record.now) (capacity (vec_len s.cells)) s.used) l c.args.work.now
    c.args.frames.now) (sym c.as_mut_slice.ensures.value)
    (ready_for s c.args.goals.now c.args.record.now c.args.work.now c.args.frames.now
    c.if-goals-gt-MOST_GOALS.false c.if-record-gt-MOST_STEPS.false ok (sound_of (Coded-set g.row.L.coded) s)))

pub returns-clause-kept : goal.returns-clause-kept
returns-clause-kept g c =
    let s = c.args.slate.now in
    let alike = g.L.PartialEq.eq in
    let book = g.B.Book.entries c.args.book.now in
    let ws = c.replay_and_retract.new.cells in
    let left : cells_of (take s.used (take (vec_len s.cells) (ws ++ drop (length ws) (vec_items s.cells)))) ≡
    cells_of (take s.used (vec_items s.cells)) =
    ap (λ l. cells_of (take s.used l)) (refill (vec_len s.cells) (vec_items s.cells) ws s.cells.ok.0
    (c.replay_and_retract.ensures.as_many ∙ ap length c.as_mut_slice.ensures.value))
    ∙ (c.replay_and_retract.ensures.left ∙ ap (λ l. cells_of (take s.used l)) c.as_mut_slice.ensures.value) in
    let room : c.min-room.result ≡ capacity (vec_len s.cells) =
    c.min-room.ensures ∙ ap (λ k. min k 2048) c.len.ensures in
    let ok : Admitted (in_use s) s.used (vec_len s.cells) c.args.goals.now (length c.args.work.now)
    (length c.args.frames.now) (length c.args.record.now) =
    over_slate {U = Unit {0}} s c.as_slice.result.now c.as_slice.ensures.value c.args.goals.now
    (length c.args.work.now) (length c.args.frames.now) (length c.args.record.now) (Ok (tt {0}))
    c.in_ok-admit.ensures in
    replayed_kept (Coded-set g.row.L.coded) alike g.met.L.Leaf.decides book
    (g.met.B.Book.rules c.args.book.now) s c.args.goals.now c.args.record.now
    (length c.args.work.now) (length c.args.frames.now) c.if-goals-gt-MOST_GOALS.false
    c.if-record-gt-MOST_STEPS.false s.used ok _ (passes_or c.replay_and_retract.result)
    (c.replay_and_retract.ensures.answer
    ∙ ap (λ k. answer_to (checks alike book s.used (k - s.used)
    (cells_of (take s.used c.as_mut_slice.result.now)) c.args.goals.now (steps_of c.args.record.now))) room
    ∙ ap (λ l. answer_to (checks alike book s.used (capacity (vec_len s.cells) - s.used)
    (cells_of (take s.used l)) c.args.goals.now (steps_of c.args.record.now))) c.as_mut_slice.ensures.value)
    left refl
