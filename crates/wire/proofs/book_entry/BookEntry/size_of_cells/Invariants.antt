use Rattle.std.proofs.Common.{◌≡◌, ◌*◌, ◌≤◌, length, take}
use Rattle.std.specs.List.{slice_get, flat_map}
use Rattle.form.specs.Forms.{part_form}
use Rattle.wire.specs.Writes.{parts_in}
use Rattle.wire.proofs.book_entry.BookEntry.size_of_cells.Given as goal

-- the size of the cells so far
abbrev pub invariant-loop-j : goal.invariant-loop-j
invariant-loop-j g l =
    (l.size ≡ length (flat_map (part_form g.L.WireLeaf.written) (take l.j (parts_in (slice_get (g.B.Book.entries l.self.book.now) l.self.index)))))
    × (l.size ≤ 260 * l.j)
