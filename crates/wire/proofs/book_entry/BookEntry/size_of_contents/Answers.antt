use Rattle.std.proofs.Common.{arith}
use Rattle.std.specs.List.{slice_get}
use Rattle.wire.proofs.Bounds.{contents_size, few_goals, goals_count}
use Rattle.wire.proofs.book_entry.BookEntry.size_of_contents.Goals as goal

pub overflow_add-result-2 : goal.overflow_add-result-2
overflow_add-result-2 g c =
    let s = c.args.self.now in
    let goals = goals_count g.L.WireLeaf.written (slice_get (g.B.Book.entries c.args.self.now.book.now) c.args.self.now.index) s.outline s.there in
    omega (arith, c.size_of_cells.ensures.small, goals, few_goals (g.met.B.Book.rules s.book.now) s.index)

pub returns : goal.returns
returns g c =
    let s = c.args.self.now in
    let o = slice_get (g.B.Book.entries c.args.self.now.book.now) c.args.self.now.index in
    let w = g.L.WireLeaf.written in
    let goals = goals_count w o s.outline s.there in
    record {
      value = omega (arith, c.size_of_cells.ensures.value, contents_size w o s.outline s.there);
      small = omega (arith, c.size_of_cells.ensures.small, goals, few_goals (g.met.B.Book.rules s.book.now) s.index);
    }
