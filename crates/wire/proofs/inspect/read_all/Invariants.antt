use Rattle.std.proofs.Common.{◌≡◌, length}
use Rattle.form.specs.Meanings.{meaning}
use Rattle.wire.specs.Reads.{row_left}
use Rattle.wire.proofs.inspect.read_all.Given as goal

-- the first fault is that of the bytes that are left
abbrev pub invariant-loop : goal.invariant-loop
invariant-loop g l =
    (meaning g.L.WireLeaf.wide g.L.WireLeaf.reading l.bytes).first_fault
    ≡ (row_left g.L.WireLeaf.wide g.L.WireLeaf.reading l.entries).first_fault

abbrev pub decreases-loop : goal.decreases-loop
decreases-loop g l = length l.entries.rest.now
