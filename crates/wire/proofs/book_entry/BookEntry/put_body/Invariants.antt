use Rattle.std.proofs.Common.{take}
use Rattle.std.specs.List.{slice_get}
use Rattle.leaf.specs.Outputs.{Fills}
use Rattle.wire.specs.Writes.{body_in}
use Rattle.wire.proofs.book_entry.BookEntry.put_body.Given as goal

-- the goals so far are written
abbrev pub invariant-loop-k : goal.invariant-loop-k
invariant-loop-k g l =
    Fills l.initial.out l.out (take l.k (body_in (slice_get (g.B.Book.entries l.self.book.now) l.self.index))) l.at
