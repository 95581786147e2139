use Rattle.std.proofs.Common.{length, sym, refl, ap, ◌∙◌, arith}
use Rattle.std.specs.List.{slice_get}
use Rattle.form.specs.Forms.{entry_form}
use Rattle.wire.specs.Writes.{shown}
use Rattle.wire.proofs.Bounds.{there}
use Rattle.wire.proofs.FaultsFound.{is_there, none_is, some_is}
use Rattle.wire.proofs.Filling.{fills_long, fills_next, fills_none, fills_same, joined_all, joined_within, part_long}
use Rattle.wire.proofs.writer.put_book.Goals as goal

pub loop-i-init : goal.loop-i-init
loop-i-init g c = fills_none c.args.out.now

pub unwrap-entry-requires : goal.unwrap-entry-requires
unwrap-entry-requires g c =
    is_there c.of.result (λ n. there (g.B.Book.entries c.args.book.now) c.loop-i.i (omega (arith, c.len-i-end.ensures)) (none_is _ _ c.of.result n c.of.ensures))

pub put-at-requires : goal.put-at-requires
put-at-requires g c =
    let es = g.B.Book.entries c.args.book.now in
    let e = c.unwrap-entry.result in
    let of = some_is _ _ c.of.result e c.unwrap-entry.ensures c.of.ensures in
    let same =
    ap (slice_get es) (sym of.1) ∙ ap (λ b. slice_get (g.B.Book.entries b) e.index) (sym of.0) in
    let f = entry_form g.L.WireLeaf.written in
    let within = joined_within f es c.loop-i.i in
    part_long c.loop-i.out _ _
    (omega (arith, within, ap (λ o. length (shown f o)) same, c.loop-i.invariant.count, fills_long c.loop-i.invariant, c.requires))

pub loop-i-preserved : goal.loop-i-preserved
loop-i-preserved g c =
    let es = g.B.Book.entries c.args.book.now in
    let e = c.unwrap-entry.result in
    let of = some_is _ _ c.of.result e c.unwrap-entry.ensures c.of.ensures in
    let same =
    ap (slice_get es) (sym of.1) ∙ ap (λ b. slice_get (g.B.Book.entries b) e.index) (sym of.0) in
    let f = entry_form g.L.WireLeaf.written in
    fills_next f es c.loop-i.i (ap (shown f) same) c.loop-i.invariant c.put-at.ensures

pub returns : goal.returns
returns g c =
    let es = g.B.Book.entries c.args.book.now in
    fills_same (joined_all (entry_form g.L.WireLeaf.written) es c.loop-i.i (omega arith)) refl c.loop-i.invariant
