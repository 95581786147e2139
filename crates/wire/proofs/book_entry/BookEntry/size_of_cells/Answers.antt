use Rattle.std.proofs.Common.{length, sym, ap, ◌∙◌, arith}
use Rattle.std.specs.List.{slice_get}
use Rattle.std.specs.Option.{option_map}
use Rattle.book.specs.Answers.{part_of}
use Rattle.form.specs.Forms.{part_form}
use Rattle.wire.specs.Writes.{parts_in, shown}
use Rattle.wire.proofs.Bounds.{cell_is, cells_count, few_parts, there}
use Rattle.wire.proofs.FaultsFound.{is_there}
use Rattle.wire.proofs.Filling.{joined_all, long_next}
use Rattle.wire.proofs.book_entry.BookEntry.size_of_cells.Goals as goal

pub unwrap-cell-requires : goal.unwrap-cell-requires
unwrap-cell-requires g c =
    let s = c.args.self.now in
    let o = slice_get (g.B.Book.entries c.args.self.now.book.now) c.args.self.now.index in
    let j = c.loop-j.j in
    let more = cells_count g.L.WireLeaf.written o s.outline s.there in
    is_there c.cell.result
    (λ n. there (parts_in o) j (omega (arith, more)) (sym (ap (option_map part_of) (sym n) ∙ c.cell.ensures ∙ cell_is o j)))

pub overflow_add-size : goal.overflow_add-size
overflow_add-size g c =
    let s = c.args.self.now in
    let o = slice_get (g.B.Book.entries c.args.self.now.book.now) c.args.self.now.index in
    let more = cells_count g.L.WireLeaf.written o s.outline s.there in
    omega (arith, c.loop-j.invariant.1, c.size_of_cell-size.ensures.small, more, few_parts (g.met.B.Book.rules s.book.now) s.index)

pub loop-j-preserved : goal.loop-j-preserved
loop-j-preserved g c =
    let o = slice_get (g.B.Book.entries c.args.self.now.book.now) c.args.self.now.index in
    let f = part_form g.L.WireLeaf.written in
    let at = ap (option_map part_of) (sym c.unwrap-cell.ensures) ∙ c.cell.ensures ∙ cell_is o c.loop-j.j in (
      long_next f (parts_in o) c.loop-j.j c.loop-j.size c.size_of_cell-size.result _ (ap (shown f) (sym at)) c.loop-j.invariant.0
          c.size_of_cell-size.ensures.value,
      omega (arith, c.loop-j.invariant.1, c.size_of_cell-size.ensures.small),
    )

pub returns : goal.returns
returns g c =
    let s = c.args.self.now in
    let o = slice_get (g.B.Book.entries c.args.self.now.book.now) c.args.self.now.index in
    let f = part_form g.L.WireLeaf.written in
    let all = cells_count g.L.WireLeaf.written o s.outline s.there in
    record {
      value = c.loop-j.invariant.0 ∙ ap length (joined_all f (parts_in o) c.loop-j.j (omega (arith, all)));
      small = omega (arith, c.loop-j.invariant.1, all, few_parts (g.met.B.Book.rules s.book.now) s.index);
    }
