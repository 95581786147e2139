use Rattle.std.proofs.Common.{take}
use Rattle.std.specs.List.{slice_get, flat_map}
use Rattle.leaf.specs.Outputs.{Fills}
use Rattle.form.specs.Forms.{part_form}
use Rattle.wire.specs.Writes.{parts_in}
use Rattle.wire.proofs.book_entry.BookEntry.put_cells.Given as goal

-- the cells so far are written
abbrev pub invariant-loop-j : goal.invariant-loop-j
invariant-loop-j g l =
    Fills l.initial.out l.out
    (flat_map (part_form g.L.WireLeaf.written) (take l.j (parts_in (slice_get (g.B.Book.entries l.self.book.now) l.self.index)))) l.at
