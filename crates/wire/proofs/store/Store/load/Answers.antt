use Rattle.std.proofs.Common.{◌+◌, ◌<◌, ◌≤◌, ◌++◌, length, Some, Ok, sym, ap, ◌∙◌, subst, arith}
use Rattle.std.specs.List.{AllByRecursion}
use Rattle.book.specs.Tables.{row_entries}
use Rattle.form.proofs.Steps.{meaning_long}
use Rattle.wire.proofs.FirstEntries.{begins}
use Rattle.std.proofs.ByRecursion.{All-from_get_or}
use Rattle.leaf.specs.Bytes.{Bytes}
use Rattle.form.specs.Meanings.{meaning}
use Rattle.wire.specs.Reads.{RowStep, kept_entries, row_left}
use Rattle.wire.proofs.Kept.{all_kept, keeps_entries, keeps_fault}
use Rattle.wire.proofs.store.Store.load.Goals as goal

pub loop-entry-preserved : goal.loop-entry-preserved
loop-entry-preserved g c =
    let wide = g.L.WireLeaf.wide in
    let reading = g.L.WireLeaf.reading in
    let inv = c.loop-entry.invariant in
    let h =
    subst (λ o. RowStep wide reading c.loop-entry.entries c.next.new.self (Ok o)) c.in-Ok-Some.field-0-is c.in-Ok-Some.ensures.means in
    let a = c.in_ok-add-in-Ok-Some.ensures h.0 h.1 inv.0 in
    let book = meaning wide reading c.args.bytes.now in (
      a.0,
      keeps_entries book _ _ _ _ _ h.2 a.1 inv.1,
      keeps_fault book _ _ (kept_entries c.loop-entry.self) _ _ h.2 a.1 inv.2,
    )

pub returns-in-Ok-None-clause-rules : goal.returns-in-Ok-None-clause-rules
returns-in-Ok-None-clause-rules g c =
    let wide = g.L.WireLeaf.wide in
    let reading = g.L.WireLeaf.reading in
    let bs = c.args.bytes.now in
    let bytes : Bytes bs = All-from_get_or (λ b. b < 256) bs 0 (λ i h. omega (arith, c.type_inv.bytes i)) in
    let end =
    subst (λ o. RowStep wide reading c.loop-entry.entries c.next.new.self (Ok o)) c.in-Ok-None.field-0-is c.in-Ok-None.ensures.means in
    ∣ all_kept wide reading bs _ _ bytes c.loop-entry.invariant.1 (ap (λ m. m.entries) end) ∣₁

pub returns-in-Err-next-clause-rules : goal.returns-in-Err-next-clause-rules
returns-in-Err-next-clause-rules g c =
    let bs = c.args.bytes.now in
    let bytes : Bytes bs = All-from_get_or (λ b. b < 256) bs 0 (λ i h. omega (arith, c.type_inv.bytes i)) in
    ∣ all_kept g.L.WireLeaf.wide g.L.WireLeaf.reading bs _ _ bytes c.loop-entry.invariant.1 (ap (λ m. m.entries) c.in-Err-next.ensures.means) ∣₁

pub returns-in-Err-clause-means : goal.returns-in-Err-clause-means
returns-in-Err-clause-means g c =
    let h = c.in-Err.ensures in
    let m = meaning_long g.L.WireLeaf.wide g.L.WireLeaf.reading c.args.bytes.now h.0 in (
      ap (λ x. x.entries) m ∙ sym (ap (row_entries c.args.self.now.cells.items) c.requires.0),
      ap (λ x. x.first_fault) m ∙ ap Some (sym h.1),
    )

pub loop-entry-init : goal.loop-entry-init
loop-entry-init g c =
    let s = c.args.self.now in
    let m = begins g.L.WireLeaf.wide g.L.WireLeaf.reading c.args.bytes.now c.in-Ok.entries c.in-Ok.ensures in (
      subst (AllByRecursion (λ row. row.first + row.cells ≤ length s.cells.items)) (sym c.requires.0) tt,
      ap (λ x. x.entries) m
          ∙ ap (λ rows. row_entries s.cells.items rows ++ (row_left g.L.WireLeaf.wide g.L.WireLeaf.reading c.in-Ok.entries).entries)
          (sym c.requires.0),
      ap (λ x. x.first_fault) m,
    )
