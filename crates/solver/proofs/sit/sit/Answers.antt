use Rattle.std.proofs.Common.{◌+◌, map, length, Err, vec_items, sym, refl, ap, ◌∙◌, subst}
use Rattle.std.proofs.lemmas.List.{length_push}
use Rattle.std.proofs.lemmas.Result.{err_from_is_err_and}
use Rattle.slate.specs.Slates.{supplied, on_slate}
use Rattle.solver.specs.Sitting.{lent, Sat, listed}
use Rattle.solver.proofs.Sittings.{begun, at_lengths, collected, lost}
use Rattle.solver.proofs.sit.sit.Goals as goal

pub loop-call-init : goal.loop-call-init
loop-call-init g c = (
  ap length c.new-answers.ensures.items,
  refl,
  refl,
  refl,
  refl,
  begun (g.B.Book.entries c.args.book.now) (g.met.B.Book.rules c.args.book.now) _ _ c.wipe.ensures.wiped.begins,
)

pub returns-in_err-answer-clause-sat : goal.returns-in_err-answer-clause-sat
returns-in_err-answer-clause-sat g c =
    let l = c.loop-call in
    let i = l.invariant in
    let f = lent (length c.args.steps.now) (length c.args.work.now) (length c.args.frames.now) in
    let book = g.B.Book.entries c.args.book.now in
    let x = c.call-item.result in
    let m = c.make_call.ensures in
    let p = err_from_is_err_and c.from_residual.result c.from_residual.ensures.1 in
    subst (λ r. Sat book (supplied c.args.slate.now) (map f c.args.calls.now) (on_slate c.make_call.new.slate)
    (listed r)) (sym p.1)
    (subst (λ n. Sat book n (map f c.args.calls.now) (on_slate c.make_call.new.slate) (Err p.0))
    c.wipe.ensures.as_many
    (lost f c.args.calls.now l.call-index x c.call-item.is c.loop-call-test.true book
    (supplied c.wipe.new.self) (on_slate l.slate) (on_slate c.make_call.new.slate) (vec_items l.answers) i.0
    i.5 m.answer
    (at_lengths book (on_slate l.slate) (on_slate c.make_call.new.slate) x m.answer i.1 i.2 i.3 i.4
    m.carries) p.0))

pub returns-in_err-push-clause-sat : goal.returns-in_err-push-clause-sat
returns-in_err-push-clause-sat g c =
    let l = c.loop-call in
    let i = l.invariant in
    let f = lent (length c.args.steps.now) (length c.args.work.now) (length c.args.frames.now) in
    let book = g.B.Book.entries c.args.book.now in
    let x = c.call-item.result in
    let m = c.make_call.ensures in
    let p = err_from_is_err_and c.from_residual-in_err-push.result c.from_residual-in_err-push.ensures.1 in
    subst (λ r. Sat book (supplied c.args.slate.now) (map f c.args.calls.now) (on_slate c.make_call.new.slate)
    (listed r)) (sym p.1)
    (subst (λ n. Sat book n (map f c.args.calls.now) (on_slate c.make_call.new.slate) (Err p.0))
    c.wipe.ensures.as_many
    (lost f c.args.calls.now l.call-index x c.call-item.is c.loop-call-test.true book
    (supplied c.wipe.new.self) (on_slate l.slate) (on_slate c.make_call.new.slate) (vec_items l.answers) i.0
    i.5 m.answer
    (at_lengths book (on_slate l.slate) (on_slate c.make_call.new.slate) x m.answer i.1 i.2 i.3 i.4
    m.carries) p.0))

pub loop-call-preserved : goal.loop-call-preserved
loop-call-preserved g c =
    let l = c.loop-call in
    let i = l.invariant in
    let f = lent (length c.args.steps.now) (length c.args.work.now) (length c.args.frames.now) in
    let book = g.B.Book.entries c.args.book.now in
    let x = c.call-item.result in
    let m = c.in_ok-answer.ensures in
    let items = c.in_ok-push.ensures.items in (
      ap length items ∙ (length_push (vec_items l.answers) c.in_ok-answer.answer ∙ ap (λ k. k + 1) i.0),
      m.as_many ∙ i.1,
      c.make_call.auto.steps ∙ i.2,
      c.make_call.auto.work ∙ i.3,
      c.make_call.auto.frames ∙ i.4,
      collected f c.args.calls.now l.call-index x c.call-item.is c.loop-call-test.true book
          (supplied c.wipe.new.self) (on_slate l.slate) (on_slate c.make_call.new.slate) (vec_items l.answers) i.0
          i.5 m.answer
          (at_lengths book (on_slate l.slate) (on_slate c.make_call.new.slate) x m.answer i.1 i.2 i.3 i.4
          m.carries) c.in_ok-answer.answer m.is (vec_items c.push.new.self) items,
    )
