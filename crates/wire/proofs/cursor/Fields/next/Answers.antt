use Rattle.std.proofs.Common.{◌+◌, ◌-◌, ◌<◌, length, sym, refl, ap, ◌∙◌, arith}
use Rattle.std.proofs.lemmas.Bool.{eqb-false, eqb-true}
use Rattle.std.proofs.lemmas.Result.{err_from_is_err_and}
use Rattle.wire.specs.declared.cursor.Fields.{Fields}
use Rattle.wire.proofs.FaultsFound.{missing_is, none_is, some_is}
use Rattle.wire.proofs.FirstFields.{ends_here, goes_wrong, item_read, mark_room, part_wrong, shorter}
use Rattle.wire.proofs.cursor.Fields.next.Goals as goal

pub returns-then-is_empty-clause-means : goal.returns-then-is_empty-clause-means
returns-then-is_empty-clause-means g c ps m =
    ends_here g.L.WireLeaf.wide g.L.WireLeaf.reading ps c.args.self.now (eqb-true _ 0 (sym c.is_empty.ensures ∙ c.if-is_empty.true))

pub returns-in_err-field-clause-means : goal.returns-in_err-field-clause-means
returns-in_err-field-clause-means g c ps m =
    let left : 0 < length c.args.self.now.rest.now = omega (arith, eqb-false _ 0 (sym c.is_empty.ensures ∙ c.if-is_empty.false)) in
    let h = c.in_err-field.ensures in
    part_wrong g.L.WireLeaf.wide g.L.WireLeaf.reading ps c.args.self.now c.args.self.now left
    (none_is _ _ c.split.result h.ok_part c.split.ensures) _
    (missing_is c.split.result c.inside.result _ h.ok_part h.value ∙ c.inside.ensures) _
    (err_from_is_err_and c.from_residual.result c.from_residual.ensures.1)

pub returns-in_err-item-clause-means : goal.returns-in_err-item-clause-means
returns-in_err-item-clause-means g c ps m =
    goes_wrong g.L.WireLeaf.wide g.L.WireLeaf.reading ps c.args.self.now c.in_ok-field.field
    (some_is _ _ c.split.result c.in_ok-field.field c.in_ok-field.ensures.ok_part c.split.ensures) _
    (c.in_err-item.ensures ps (m ∙ sym c.as_slice.ensures.value)) c.args.self.now _
    (err_from_is_err_and c.from_residual-in_err-item.result c.from_residual-in_err-item.ensures.1)

pub mark-requires : goal.mark-requires
mark-requires g c =
    mark_room g.L.WireLeaf.wide g.L.WireLeaf.reading c.args.self.now.spot c.in_ok-field.field.tag c.in_ok-field.field.contents.now
    c.args.self.now.nodes.items c.in_ok-item.item (omega (arith, c.as_slice.ensures.fits, ap length c.as_slice.ensures.value))
    (λ ps m. c.in_ok-item.ensures ps (m ∙ sym c.as_slice.ensures.value))

pub overflow_sub-self : goal.overflow_sub-self
overflow_sub-self g c =
    omega (arith, shorter c.args.self.now.rest.now c.in_ok-field.field (some_is _ _ c.split.result c.in_ok-field.field c.in_ok-field.ensures.ok_part c.split.ensures))

pub invariant_of-self : goal.invariant_of-self
invariant_of-self g c =
    let s = shorter c.args.self.now.rest.now c.in_ok-field.field (some_is _ _ c.split.result c.in_ok-field.field c.in_ok-field.ensures.ok_part c.split.ensures) in
    record { fits = omega (arith, s, c.args.self.now.fits) }

pub returns-clause-shorter : goal.returns-clause-shorter
returns-clause-shorter g c =
    shorter c.args.self.now.rest.now c.in_ok-field.field (some_is _ _ c.split.result c.in_ok-field.field c.in_ok-field.ensures.ok_part c.split.ensures)

pub returns-clause-means : goal.returns-clause-means
returns-clause-means g c ps m =
    let before = c.args.self.now in
    let field = c.in_ok-field.field in
    let of = some_is _ _ c.split.result field c.in_ok-field.ensures.ok_part c.split.ensures in
    let place = before.spot.place + (length before.rest.now - length field.rest.now) in
    let after : Fields =
    record {
      rest = field.rest;
      spot = record { place = place; entry = before.spot.entry };
      nodes = c.mark.new.nodes;
      fits = omega (arith, shorter before.rest.now field of, before.fits);
    } in
    item_read g.L.WireLeaf.wide g.L.WireLeaf.reading ps before field of after refl refl c.in_ok-item.item m c.mark.ensures
    (c.in_ok-item.ensures ps (m ∙ sym c.as_slice.ensures.value))
