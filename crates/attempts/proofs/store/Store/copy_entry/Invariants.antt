use Rattle.std.proofs.Common.{◌≡◌, ◌+◌, length, take}
use Rattle.searching.specs.Trying.{copied}
use Rattle.cells.specs.Cells.{cells_of, AllCounted}
use Rattle.attempts.specs.Attempts.{parts_at}
use Rattle.attempts.specs.Lists.{SameLists}
use Rattle.attempts.proofs.store.Store.copy_entry.Given as goal

-- the cells so far are copied, and nothing else is altered
abbrev pub invariant-loop-j : goal.invariant-loop-j
invariant-loop-j g l =
    (cells_of (take (l.base + l.j) l.self.cells.now) ≡ copied (λ i. l.base + i)
    (cells_of (take l.base l.initial.self.cells.now)) (take l.j (parts_at (g.B.Book.entries l.book) l.number)))
    × AllCounted (take (l.base + l.j) l.self.cells.now)
    × (length l.self.cells.now ≡ length l.initial.self.cells.now)
    × (l.self.work.now ≡ l.initial.self.work.now)
    × (l.self.extent ≡ l.initial.self.extent)
    × SameLists l.initial.self l.self
