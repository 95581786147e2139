use Rattle.std.proofs.Common.{◌≡◌, [], ◌++◌, List, length, map}
use Rattle.book.specs.declared.entry.EntryCell.{EntryCell}
use Rattle.book.specs.Answers.{part_of}
use Rattle.form.specs.Meanings.{ending_of}
use Rattle.wire.specs.Marks.{marks_of}
use Rattle.wire.specs.Reads.{ending_left}
use Rattle.wire.proofs.store.Store.add_cells.Given as goal

-- the cells added are marked as they are, and the contents come to what the rest comes to after them
abbrev pub invariant-loop-cell : goal.invariant-loop-cell
invariant-loop-cell g l =
    (l.self.rows ≡ l.initial.self.rows)
    × ((cs : List (EntryCell g.row.L.Denot))
    × (l.self.cells.items ≡ l.initial.self.cells.items ++ cs)
    × (marks_of (map part_of cs) ≡ l.fields.nodes.items)
    × (ending_of g.L.WireLeaf.wide g.L.WireLeaf.reading [] l.entry.spot.place l.entry.contents.now
    ≡ ending_left g.L.WireLeaf.wide g.L.WireLeaf.reading (map part_of cs) l.fields))

abbrev pub decreases-loop-cell : goal.decreases-loop-cell
decreases-loop-cell g l = length l.fields.rest.now
