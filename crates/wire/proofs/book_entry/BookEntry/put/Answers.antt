use Rattle.std.proofs.Common.{◌+◌, length, refl, arith}
use Rattle.std.specs.List.{slice_get, flat_map}
use Rattle.form.specs.Forms.{part_form}
use Rattle.wire.specs.Tags.{tag_number}
use Rattle.wire.specs.Writes.{parts_in}
use Rattle.wire.proofs.Bounds.{contents_size, entry_size, entry_text}
use Rattle.wire.proofs.Filling.{fills_rest, fills_same, rest_long}
use Rattle.wire.proofs.book_entry.BookEntry.put.Goals as goal

pub put_header-start-requires : goal.put_header-start-requires
put_header-start-requires g c =
    let s = c.args.self.now in
    let o = slice_get (g.B.Book.entries c.args.self.now.book.now) c.args.self.now.index in (
      omega (arith, c.size_of_contents.ensures.small),
      omega (arith, c.requires, entry_size g.L.WireLeaf.written o s.outline s.there),
    )

pub put_cells-requires : goal.put_cells-requires
put_cells-requires g c =
    let s = c.args.self.now in
    let o = slice_get (g.B.Book.entries c.args.self.now.book.now) c.args.self.now.index in
    let w = g.L.WireLeaf.written in
    rest_long (length (flat_map (part_form w) (parts_in o))) c.put_header-start.ensures
    (omega (arith, c.requires, entry_size w o s.outline s.there, contents_size w o s.outline s.there, c.put_header-start.ensures.count))

pub put_goals-requires : goal.put_goals-requires
put_goals-requires g c =
    let s = c.args.self.now in
    let o = slice_get (g.B.Book.entries c.args.self.now.book.now) c.args.self.now.index in
    let w = g.L.WireLeaf.written in
    rest_long (4 + s.outline.goals) (fills_rest c.put_header-start.ensures c.put_cells.ensures)
    (omega (arith, c.requires, entry_size w o s.outline s.there, contents_size w o s.outline s.there, c.put_header-start.ensures.count, c.put_cells.ensures.count))

pub returns : goal.returns
returns g c =
    let s = c.args.self.now in
    let o = slice_get (g.B.Book.entries c.args.self.now.book.now) c.args.self.now.index in
    fills_same
    (entry_text g.L.WireLeaf.written o s.outline s.there (tag_number c.from.result) c.size_of_contents.result c.from.ensures c.size_of_contents.ensures.value)
    refl (fills_rest (fills_rest c.put_header-start.ensures c.put_cells.ensures) c.put_goals.ensures)
