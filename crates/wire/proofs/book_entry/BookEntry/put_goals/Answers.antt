use Rattle.std.proofs.Common.{◌≡◌, suc, ◌+◌, ◌∷◌, ◌++◌, length, refl, ap, arith}
use Rattle.std.specs.List.{slice_get}
use Rattle.leaf.specs.Bytes.{two_bytes}
use Rattle.wire.specs.Writes.{body_in}
use Rattle.wire.proofs.Bounds.{few_goals, goals_count}
use Rattle.wire.proofs.Filling.{fills_rest, fills_same}
use Rattle.wire.proofs.book_entry.BookEntry.put_goals.Goals as goal

pub put_header-start-requires : goal.put_header-start-requires
put_header-start-requires g c =
    let s = c.args.self.now in
    let goals = goals_count g.L.WireLeaf.written (slice_get (g.B.Book.entries c.args.self.now.book.now) c.args.self.now.index) s.outline s.there in
    (omega (arith, goals, few_goals (g.met.B.Book.rules s.book.now) s.index), omega (arith, c.requires))

pub returns : goal.returns
returns g c =
    let s = c.args.self.now in
    let o = slice_get (g.B.Book.entries c.args.self.now.book.now) c.args.self.now.index in
    let goals = goals_count g.L.WireLeaf.written o s.outline s.there in
    let e : 1 + s.outline.goals ≡ suc (length (body_in o)) = omega (arith, goals) in
    fills_same (ap (λ n. 19 ∷ (two_bytes n ++ (s.outline.head ∷ body_in o))) e) refl
    (fills_rest (fills_rest c.put_header-start.ensures c.put_bytes.ensures) c.put_body.ensures)
