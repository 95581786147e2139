use Rattle.std.proofs.Common.{◌≡◌, ◌*◌, ◌≤◌, length, take}
use Rattle.form.specs.Forms.{book_form}
use Rattle.wire.proofs.sizes.size_of_book.Given as goal

-- the size of the entries so far
abbrev pub invariant-loop-i : goal.invariant-loop-i
invariant-loop-i g l =
    (l.size ≡ length (book_form g.L.WireLeaf.written (take l.i (g.B.Book.entries l.book)))) × (l.size ≤ 16655 * l.i)
