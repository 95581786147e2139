use Rattle.std.proofs.Common.{[], Some, Ok, Err, sym, ap, ◌∙◌, subst}
use Rattle.std.proofs.lemmas.Result.{err_from_is_err_and}
use Rattle.form.specs.declared.fault.Cause.TheVariants.{WrongGoals}
use Rattle.form.specs.Meanings.{ending_of, inner_fault}
use Rattle.wire.specs.Reads.{ContentsMean, FieldStep}
use Rattle.wire.proofs.FirstFields.{ends_badly, ends_complete, ends_more}
use Rattle.wire.proofs.read_contents.test_contents.Goals as goal

pub loop-item-init : goal.loop-item-init
loop-item-init g c =
    let h = c.of-fields.ensures in (
      ap (λ s. s.entry) h.spot,
      (
        [],
        sym h.nodes,
        ap (λ p. ending_of g.L.WireLeaf.wide g.L.WireLeaf.reading [] p c.args.contents.now) (sym (ap (λ s. s.place) h.spot))
            ∙ ap (ending_of g.L.WireLeaf.wide g.L.WireLeaf.reading [] c.of-fields.result.spot.place) (sym h.rest),
      ),
    )

pub returns-in_err-item : goal.returns-in_err-item
returns-in_err-item g c =
    let inv = c.loop-item.invariant in
    let h = c.in_err-item.ensures.means inv.1.0 inv.1.1 in
    let p = err_from_is_err_and c.from_residual.result c.from_residual.ensures.1 in
    subst (ContentsMean g.L.WireLeaf.wide g.L.WireLeaf.reading c.args.spot c.args.contents.now)
    (sym (p.1 ∙ ap Err p.2)) (inv.1.2 ∙ h.0, h.1 ∙ ap (inner_fault _ _) inv.0)

pub returns-in_err-close : goal.returns-in_err-close
returns-in_err-close g c =
    let wide = g.L.WireLeaf.wide in
    let reading = g.L.WireLeaf.reading in
    let inv = c.loop-item.invariant in
    let before = c.loop-item.fields in
    let after = c.next.new.self in
    let goes =
    subst (λ o. FieldStep wide reading inv.1.0 before after (Ok o)) (c.in-Some.is ∙ ap Some c.in-Goals.is)
    (c.in_ok-item.ensures.means inv.1.0 inv.1.1) in
    let h = c.in_err-close.ensures in
    let p = err_from_is_err_and c.from_residual-in_err-close.result c.from_residual-in_err-close.ensures.1 in
    subst (ContentsMean wide reading c.args.spot c.args.contents.now) (sym (p.1 ∙ ap Err p.2))
    (
    ends_badly _ _ WrongGoals _ _ (h.1 ∙ ap (inner_fault _ _) (c.in_ok-item.ensures.same_entry ∙ inv.0))
    (inv.1.2 ∙ ends_more wide reading inv.1.0 before after c.in-Goals.goals goes h.0)
    )

pub returns-in-Goals : goal.returns-in-Goals
returns-in-Goals g c =
    let wide = g.L.WireLeaf.wide in
    let reading = g.L.WireLeaf.reading in
    let inv = c.loop-item.invariant in
    let before = c.loop-item.fields in
    let after = c.next.new.self in
    let goes =
    subst (λ o. FieldStep wide reading inv.1.0 before after (Ok o)) (c.in-Some.is ∙ ap Some c.in-Goals.is)
    (c.in_ok-item.ensures.means inv.1.0 inv.1.1) in
    (inv.1.0, inv.1.2 ∙ ends_complete wide reading inv.1.0 before after c.in-Goals.goals goes c.in_ok-close.ensures)

pub loop-item-preserved : goal.loop-item-preserved
loop-item-preserved g c =
    let wide = g.L.WireLeaf.wide in
    let reading = g.L.WireLeaf.reading in
    let inv = c.loop-item.invariant in
    let goes =
    subst (λ o. FieldStep wide reading inv.1.0 c.loop-item.fields c.next.new.self (Ok o)) (c.in-Some.is ∙ ap Some c.in_default-item.is)
    (c.in_ok-item.ensures.means inv.1.0 inv.1.1) in
    (c.in_ok-item.ensures.same_entry ∙ inv.0, (_, goes.1, inv.1.2 ∙ goes.0))

pub returns : goal.returns
returns g c =
    let inv = c.loop-item.invariant in
    let goes =
    subst (λ o. FieldStep g.L.WireLeaf.wide g.L.WireLeaf.reading inv.1.0 c.loop-item.fields c.next.new.self (Ok o)) c.in_default.is
    (c.in_ok-item.ensures.means inv.1.0 inv.1.1) in
    (inv.1.0, inv.1.2 ∙ goes)
