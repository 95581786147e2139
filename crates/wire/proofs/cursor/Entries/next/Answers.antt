use Rattle.std.proofs.Common.{◌+◌, ◌-◌, ◌<◌, [], length, Some, sym, refl, ap, ◌∙◌, subst, Err, arith}
use Rattle.std.proofs.lemmas.Bool.{eqb-false, eqb-true}
use Rattle.std.proofs.lemmas.List.{nil_from_length}
use Rattle.std.proofs.lemmas.Result.{err_from_is_err_and}
use Rattle.form.specs.Meanings.{row_of}
use Rattle.form.proofs.Steps.{row_nil, row_part}
use Rattle.wire.specs.declared.cursor.Entries.{Entries}
use Rattle.wire.specs.Reads.{RowStep}
use Rattle.wire.proofs.FaultsFound.{missing_is, none_is, some_is}
use Rattle.wire.proofs.FirstEntries.{row_fails, row_step}
use Rattle.wire.proofs.FirstFields.{shorter}
use Rattle.wire.proofs.cursor.Entries.next.Goals as goal

pub returns-then-is_empty-clause-means : goal.returns-then-is_empty-clause-means
returns-then-is_empty-clause-means g c =
    let s = c.args.self.now in
    let none = nil_from_length s.rest.now (eqb-true _ 0 (sym c.is_empty.ensures ∙ c.if-is_empty.true)) in
    ap (row_of g.L.WireLeaf.wide g.L.WireLeaf.reading s.spot.place s.spot.entry) none
    ∙ row_nil g.L.WireLeaf.wide g.L.WireLeaf.reading s.spot.place s.spot.entry

pub returns-in_err-field-clause-means : goal.returns-in_err-field-clause-means
returns-in_err-field-clause-means g c =
    let s = c.args.self.now in
    let left : 0 < length s.rest.now = omega (arith, eqb-false _ 0 (sym c.is_empty.ensures ∙ c.if-is_empty.false)) in
    let h = c.in_err-field.ensures in
    let is = missing_is c.split.result c.in_row.result _ h.ok_part h.value ∙ c.in_row.ensures in
    let p = err_from_is_err_and c.from_residual.result c.from_residual.ensures.1 in
    subst (RowStep g.L.WireLeaf.wide g.L.WireLeaf.reading s s) (sym (p.1 ∙ ap Err p.2))
    (
    row_part g.L.WireLeaf.wide g.L.WireLeaf.reading s.spot.place s.spot.entry s.rest.now left
    (none_is _ _ c.split.result h.ok_part c.split.ensures)
    ∙ ap (λ f. record { entries = []; first_fault = Some f }) (sym is)
    )

pub returns-in_err-entry-clause-means : goal.returns-in_err-entry-clause-means
returns-in_err-entry-clause-means g c =
    row_fails g.L.WireLeaf.wide g.L.WireLeaf.reading c.args.self.now c.args.self.now c.in_ok-field.field
    (some_is _ _ c.split.result c.in_ok-field.field c.in_ok-field.ensures.ok_part c.split.ensures) _ c.in_err-entry.ensures _
    (err_from_is_err_and c.from_residual-in_err-entry.result c.from_residual-in_err-entry.ensures.1)

pub overflow_sub-self : goal.overflow_sub-self
overflow_sub-self g c =
    let of = some_is _ _ c.split.result c.in_ok-field.field c.in_ok-field.ensures.ok_part c.split.ensures in
    omega (arith, shorter c.args.self.now.rest.now c.in_ok-field.field of)

pub invariant_of-self : goal.invariant_of-self
invariant_of-self g c =
    let s = c.args.self.now in
    let of = some_is _ _ c.split.result c.in_ok-field.field c.in_ok-field.ensures.ok_part c.split.ensures in
    let less = shorter s.rest.now c.in_ok-field.field of in
    record { fits = omega (arith, less, s.fits); counted = omega (arith, less, s.counted) }

pub returns-clause-shorter : goal.returns-clause-shorter
returns-clause-shorter g c =
    shorter c.args.self.now.rest.now c.in_ok-field.field
    (some_is _ _ c.split.result c.in_ok-field.field c.in_ok-field.ensures.ok_part c.split.ensures)

pub returns-clause-means : goal.returns-clause-means
returns-clause-means g c =
    let before = c.args.self.now in
    let field = c.in_ok-field.field in
    let of = some_is _ _ c.split.result field c.in_ok-field.ensures.ok_part c.split.ensures in
    let less = shorter before.rest.now field of in
    let place = before.spot.place + (length before.rest.now - length field.rest.now) in
    let after : Entries =
    record {
      rest = field.rest;
      spot = record { place = place; entry = before.spot.entry + 1 };
      fits = omega (arith, less, before.fits);
      counted = omega (arith, less, before.counted);
    } in
    row_step g.L.WireLeaf.wide g.L.WireLeaf.reading before after field of c.in_ok-entry.entry refl refl refl
    c.in_ok-entry.ensures
