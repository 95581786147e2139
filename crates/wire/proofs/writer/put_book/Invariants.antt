use Rattle.std.proofs.Common.{take}
use Rattle.leaf.specs.Outputs.{Fills}
use Rattle.form.specs.Forms.{book_form}
use Rattle.wire.proofs.writer.put_book.Given as goal

-- the entries so far are written
abbrev pub invariant-loop-i : goal.invariant-loop-i
invariant-loop-i g l =
    Fills l.initial.out l.out (book_form g.L.WireLeaf.written (take l.i (g.B.Book.entries l.book))) l.at
