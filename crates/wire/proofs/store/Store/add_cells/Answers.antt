use Rattle.std.proofs.Common.{◌≡◌, ℕ, [], ◌∷◌, ◌++◌, map, Some, Ok, sym, refl, ap, subst, ◌∙◌, append-nil, append_assoc, arith}
use Rattle.std.proofs.lemmas.List.{map_push}
use Rattle.book.specs.Answers.{part_of}
use Rattle.form.specs.Meanings.{ending_of}
use Rattle.wire.specs.Marks.{marks_of}
use Rattle.wire.specs.Reads.{FieldStep, ending_left}
use Rattle.wire.proofs.FirstFields.{cells_stored}
use Rattle.wire.proofs.store.Store.add_cells.Goals as goal

pub loop-cell-init : goal.loop-cell-init
loop-cell-init g c =
    let h = c.of-fields.ensures in (
      refl,
      (
        [],
        sym (append-nil _),
        sym h.nodes,
        ap (λ p. ending_of g.L.WireLeaf.wide g.L.WireLeaf.reading [] p c.args.entry.now.contents.now) (sym (ap (λ s. s.place) h.spot))
            ∙ ap (ending_of g.L.WireLeaf.wide g.L.WireLeaf.reading [] c.of-fields.result.spot.place) (sym h.rest),
      ),
    )

pub loop-cell-preserved : goal.loop-cell-preserved
loop-cell-preserved g c =
    let inv = c.loop-cell.invariant in
    let cs = inv.1.0 in
    let x = c.in-Ok-Some-Cell.cell in
    let found = c.in-Ok-Some-Cell in
    let goes =
    subst (λ o. FieldStep g.L.WireLeaf.wide g.L.WireLeaf.reading (map part_of cs) c.loop-cell.fields c.next.new.self (Ok o))
    (found.field-0-is ∙ ap Some found.field-0-0-is) (found.ensures.means (map part_of cs) inv.1.2) in
    let more = map_push part_of cs x in (
      inv.0,
      (
        cs ++ x ∷ [],
        c.in_ok-push.ensures.items ∙ ap (λ ys. ys ++ x ∷ []) inv.1.1 ∙ append_assoc c.args.self.now.cells.items cs (x ∷ []),
        ap marks_of more ∙ goes.1,
        inv.1.3 ∙ goes.0 ∙ ap (λ qs. ending_left g.L.WireLeaf.wide g.L.WireLeaf.reading qs c.next.new.self) (sym more),
      ),
    )

pub returns-in_default-clause-rows : goal.returns-in_default-clause-rows
returns-in_default-clause-rows g c = c.loop-cell.invariant.0

pub returns-in_default-clause-cells : goal.returns-in_default-clause-cells
returns-in_default-clause-cells g c =
    let inv = c.loop-cell.invariant.1 in
    cells_stored g.L.WireLeaf.wide g.L.WireLeaf.reading c.loop-cell.fields c.next.new.self c.next.result _ _ _ _ inv.0 inv.1 inv.3
    (c.next.ensures.means (map part_of inv.0) inv.2) (λ x n. let z : ◌≡◌ {A = ℕ} 0 1 = cc in omega arith)

pub returns-in_default-2-clause-rows : goal.returns-in_default-2-clause-rows
returns-in_default-2-clause-rows g c = c.loop-cell.invariant.0

pub returns-in_default-2-clause-cells : goal.returns-in_default-2-clause-cells
returns-in_default-2-clause-cells g c =
    let inv = c.loop-cell.invariant.1 in
    cells_stored g.L.WireLeaf.wide g.L.WireLeaf.reading c.loop-cell.fields c.next.new.self c.next.result _ _ _ _ inv.0 inv.1 inv.3
    (c.next.ensures.means (map part_of inv.0) inv.2) (λ x n. let z : ◌≡◌ {A = ℕ} 0 1 = cc in omega arith)

pub returns-in_default-3-clause-rows : goal.returns-in_default-3-clause-rows
returns-in_default-3-clause-rows g c = c.loop-cell.invariant.0

pub returns-in_default-3-clause-cells : goal.returns-in_default-3-clause-cells
returns-in_default-3-clause-cells g c =
    let inv = c.loop-cell.invariant.1 in
    cells_stored g.L.WireLeaf.wide g.L.WireLeaf.reading c.loop-cell.fields c.next.new.self c.next.result _ _ _ _ inv.0 inv.1 inv.3
    (c.next.ensures.means (map part_of inv.0) inv.2) (λ x n. let z : ◌≡◌ {A = ℕ} 0 1 = cc in omega arith)
