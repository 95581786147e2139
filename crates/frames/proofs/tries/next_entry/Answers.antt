use Rattle.std.proofs.Common.{◌<◌, true, false, Some, None, sym, subst, arith, rules}
use Rattle.std.proofs.lemmas.Iterator.{first_from_Range}
use Rattle.frames.specs.Tries.{MayTry, NextEntry}
use Rattle.frames.proofs.Entering.{none_first, some_first, small}
use Rattle.frames.proofs.tries.next_entry.Goals as goal

pub overflow_cast-result : goal.overflow_cast-result
overflow_cast-result g c =
    let book = g.B.Book.entries c.args.book.now in
    let e = first_from_Range _ _ _ (Some c.in_ok-number.number) (λ k. MayTry book c.args.inner k true)
    (λ k. MayTry book c.args.inner k false) c.in_ok-number.ensures.ran (λ x q h. search rules) (λ x q h. search rules) in
    let k : c.in_ok-number.number < 65536 = small book (g.met.B.Book.rules c.args.book.now) c.in_ok-number.number
    (omega (arith, e.1, c.len.ensures)) in
    omega arith

pub returns : goal.returns
returns g c =
    let book = g.B.Book.entries c.args.book.now in
    let e = first_from_Range _ _ _ (Some c.in_ok-number.number) (λ k. MayTry book c.args.inner k true)
    (λ k. MayTry book c.args.inner k false) c.in_ok-number.ensures.ran (λ x q h. search rules) (λ x q h. search rules) in
    some_first book (g.met.B.Book.rules c.args.book.now) c.args.inner c.args.from c.in_ok-number.number e.0
    (omega (arith, e.1, c.len.ensures)) e.2 e.3

pub returns-in_err-number : goal.returns-in_err-number
returns-in_err-number g c =
    let book = g.B.Book.entries c.args.book.now in
    let e = first_from_Range _ _ _ None (λ k. MayTry book c.args.inner k true) (λ k. MayTry book c.args.inner k false)
    c.in_err-number.ensures.ran (λ x q h. search rules) (λ x q h. search rules) in
    subst (NextEntry book c.args.inner c.args.from) (sym c.from_residual.ensures)
    (none_first book c.args.inner c.args.from (λ k a h. e k a (omega (arith, c.len.ensures))))
