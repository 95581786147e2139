use Rattle.std.proofs.Common.{sym, refl, ap, ◌∙◌, arith}
use Rattle.std.specs.List.{slice_get}
use Rattle.std.specs.Option.{option_map}
use Rattle.book.specs.Answers.{part_of}
use Rattle.form.specs.Forms.{part_form}
use Rattle.wire.specs.Writes.{parts_in, shown}
use Rattle.wire.proofs.Bounds.{cell_is, cells_count, few_args, there}
use Rattle.wire.proofs.FaultsFound.{is_there}
use Rattle.wire.proofs.Filling.{fills_next, fills_none, fills_same, joined_all, room_next}
use Rattle.wire.proofs.book_entry.BookEntry.put_cells.Goals as goal

pub loop-j-init : goal.loop-j-init
loop-j-init g c = fills_none c.args.out.now

pub unwrap-cell-requires : goal.unwrap-cell-requires
unwrap-cell-requires g c =
    let s = c.args.self.now in
    let o = slice_get (g.B.Book.entries c.args.self.now.book.now) c.args.self.now.index in
    let j = c.loop-j.j in
    let more = cells_count g.L.WireLeaf.written o s.outline s.there in
    is_there c.cell.result
    (λ n. there (parts_in o) j (omega (arith, more)) (sym (ap (option_map part_of) (sym n) ∙ c.cell.ensures ∙ cell_is o j)))

pub put_cell-at-requires : goal.put_cell-at-requires
put_cell-at-requires g c =
    let s = c.args.self.now in
    let o = slice_get (g.B.Book.entries c.args.self.now.book.now) c.args.self.now.index in
    let f = part_form g.L.WireLeaf.written in
    let at = sym (ap (option_map part_of) (sym c.unwrap-cell.ensures) ∙ c.cell.ensures ∙ cell_is o c.loop-j.j) in (
      few_args (g.met.B.Book.rules s.book.now) s.index c.loop-j.j _ at,
      room_next f (parts_in o) c.loop-j.j (ap (shown f) at) c.loop-j.invariant c.requires,
    )

pub loop-j-preserved : goal.loop-j-preserved
loop-j-preserved g c =
    let o = slice_get (g.B.Book.entries c.args.self.now.book.now) c.args.self.now.index in
    let f = part_form g.L.WireLeaf.written in
    let at = sym (ap (option_map part_of) (sym c.unwrap-cell.ensures) ∙ c.cell.ensures ∙ cell_is o c.loop-j.j) in
    fills_next f (parts_in o) c.loop-j.j (ap (shown f) at) c.loop-j.invariant c.put_cell-at.ensures

pub returns : goal.returns
returns g c =
    let s = c.args.self.now in
    let o = slice_get (g.B.Book.entries c.args.self.now.book.now) c.args.self.now.index in
    let all = cells_count g.L.WireLeaf.written o s.outline s.there in
    fills_same (joined_all (part_form g.L.WireLeaf.written) (parts_in o) c.loop-j.j (omega (arith, all))) refl c.loop-j.invariant
