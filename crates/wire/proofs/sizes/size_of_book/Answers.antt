use Rattle.std.proofs.Common.{length, sym, ap, ◌∙◌, arith}
use Rattle.std.specs.List.{slice_get}
use Rattle.form.specs.Forms.{entry_form}
use Rattle.wire.specs.Writes.{shown}
use Rattle.wire.proofs.Bounds.{few_entries, there}
use Rattle.wire.proofs.FaultsFound.{is_there, none_is, some_is}
use Rattle.wire.proofs.Filling.{joined_all, long_next}
use Rattle.wire.proofs.sizes.size_of_book.Goals as goal

pub unwrap-entry-requires : goal.unwrap-entry-requires
unwrap-entry-requires g c =
    is_there c.of.result (λ n. there (g.B.Book.entries c.args.book.now) c.loop-i.i (omega (arith, c.len-i-end.ensures)) (none_is _ _ c.of.result n c.of.ensures))

pub overflow_add-size : goal.overflow_add-size
overflow_add-size g c =
    omega (arith, c.loop-i.invariant.1, c.size-size.ensures.small, few_entries (g.met.B.Book.rules c.args.book.now), c.len-i-end.ensures)

pub loop-i-preserved : goal.loop-i-preserved
loop-i-preserved g c =
    let es = g.B.Book.entries c.args.book.now in
    let e = c.unwrap-entry.result in
    let of = some_is _ _ c.of.result e c.unwrap-entry.ensures c.of.ensures in
    let same =
    ap (slice_get es) (sym of.1) ∙ ap (λ b. slice_get (g.B.Book.entries b) e.index) (sym of.0) in
    let f = entry_form g.L.WireLeaf.written in (
      long_next f es c.loop-i.i c.loop-i.size c.size-size.result _ (ap (shown f) same) c.loop-i.invariant.0 c.size-size.ensures.value,
      omega (arith, c.loop-i.invariant.1, c.size-size.ensures.small),
    )

pub returns : goal.returns
returns g c =
    let es = g.B.Book.entries c.args.book.now in
    c.loop-i.invariant.0 ∙ ap length (joined_all (entry_form g.L.WireLeaf.written) es c.loop-i.i (omega arith))
