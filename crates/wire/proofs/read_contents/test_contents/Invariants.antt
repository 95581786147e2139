use Rattle.std.proofs.Common.{◌≡◌, List, [], length}
use Rattle.theory.specs.Entries.{Part}
use Rattle.form.specs.Meanings.{ending_of}
use Rattle.wire.specs.Marks.{marks_of}
use Rattle.wire.specs.Reads.{ending_left}
use Rattle.wire.proofs.read_contents.test_contents.Given as goal

-- some cells are marked as they are, and the contents come to what the rest comes to after them
abbrev pub invariant-loop-item : goal.invariant-loop-item
invariant-loop-item g l =
    (l.fields.spot.entry ≡ l.fn.spot.entry)
    × ((ps : List (Part g.row.L.Denot))
    × (marks_of ps ≡ l.fields.nodes.items)
    × (ending_of g.L.WireLeaf.wide g.L.WireLeaf.reading [] l.fn.spot.place l.contents
    ≡ ending_left g.L.WireLeaf.wide g.L.WireLeaf.reading ps l.fields))

abbrev pub decreases-loop-item : goal.decreases-loop-item
decreases-loop-item g l = length l.fields.rest.now
