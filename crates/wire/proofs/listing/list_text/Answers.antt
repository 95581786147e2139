use Rattle.std.proofs.Common.{◌≤◌, ◌++◌, length, string_bytes, sym, refl, ap, ◌∙◌, arith}
use Rattle.std.proofs.lemmas.List.{take_all}
use Rattle.std.proofs.lemmas.Slice.{pushed}
use Rattle.wire.specs.Listings.{entry_lines, last_line, listing_of}
use Rattle.wire.proofs.FaultsFound.{is_there}
use Rattle.wire.proofs.ListedLines.{has_outline, one_line_more}
use Rattle.wire.proofs.listing.list_text.Goals as goal

pub unwrap-outline-requires : goal.unwrap-outline-requires
unwrap-outline-requires g c =
    is_there c.outline.result
    (λ n. has_outline (g.B.Book.entries c.args.book.now) c.loop-number.number (omega (arith, c.len-count.ensures)) (sym c.outline.ensures ∙ n))

pub loop-number-preserved : goal.loop-number-preserved
loop-number-preserved g c =
    one_line_more (g.B.Book.entries c.args.book.now) c.loop-number.number c.unwrap-outline.result
    (string_bytes c.loop-number.text) c.as_str.result.now (string_bytes c.push_str.new.self)
    (sym c.outline.ensures ∙ c.unwrap-outline.ensures) c.loop-number.invariant (c.as_str.ensures.value ∙ c.in_ok-line.ensures)
    (pushed c.as_str.result.now refl c.in_ok-push_str.was c.push_str.ensures.bytes)

pub returns : goal.returns
unfolding listing_of
returns g c =
    let es = g.B.Book.entries c.args.book.now in
    let all : length es ≤ c.loop-number.number = omega (arith, c.len-count.ensures) in
    pushed c.as_str-2.result.now refl c.in_ok-push_str-2.was c.push_str-2.ensures.bytes
    ∙ ap (λ x. x ++ c.as_str-2.result.now) (c.loop-number.invariant ∙ ap (entry_lines 0) (take_all c.loop-number.number es all))
    ∙ ap (λ x. entry_lines 0 es ++ x) (c.as_str-2.ensures.value ∙ c.in_ok-line-2.ensures)
    ∙ ap (λ n. entry_lines 0 es ++ last_line n c.args.fault) c.len-count.ensures
