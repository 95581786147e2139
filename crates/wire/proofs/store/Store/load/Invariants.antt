use Rattle.std.proofs.Common.{◌≡◌, ◌++◌, length}
use Rattle.form.specs.Meanings.{meaning}
use Rattle.wire.specs.Reads.{Inside, kept_entries, row_left}
use Rattle.wire.proofs.store.Store.load.Given as goal

-- the book means the entries kept so far and then what the bytes that are left mean
abbrev pub invariant-loop-entry : goal.invariant-loop-entry
invariant-loop-entry g l =
    Inside l.self
    × ((meaning g.L.WireLeaf.wide g.L.WireLeaf.reading l.bytes).entries
    ≡ kept_entries l.self ++ (row_left g.L.WireLeaf.wide g.L.WireLeaf.reading l.entries).entries)
    × ((meaning g.L.WireLeaf.wide g.L.WireLeaf.reading l.bytes).first_fault
    ≡ (row_left g.L.WireLeaf.wide g.L.WireLeaf.reading l.entries).first_fault)

abbrev pub decreases-loop-entry : goal.decreases-loop-entry
decreases-loop-entry g l = length l.entries.rest.now
