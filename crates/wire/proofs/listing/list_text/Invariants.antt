use Rattle.std.proofs.Common.{◌≡◌, take, string_bytes}
use Rattle.wire.specs.Listings.{entry_lines}
use Rattle.wire.proofs.listing.list_text.Given as goal

abbrev pub invariant-loop-number : goal.invariant-loop-number
invariant-loop-number g l = string_bytes l.text ≡ entry_lines 0 (take l.number (g.B.Book.entries l.book))
