use Rattle.std.proofs.Common.{length, take, sym, refl, ap, ◌∙◌, subst}
use base.Stored.{Coded-set}
use Rattle.std.proofs.lemmas.List.{with_items_is}
use Rattle.std.proofs.lemmas.Result.{err_from_is_err_and}
use Rattle.cells.specs.Cells.{cells_of}
use Rattle.cells.specs.Loops.{Given, Told}
use Rattle.slate.proofs.Answering.{carries_on, given, compare_barred, compare_kept}
use Rattle.slate.proofs.slate.Slate.compare.Goals as goal

pub returns-in_err-admit : goal.returns-in_err-admit
returns-in_err-admit g c =
    let p = err_from_is_err_and c.from_residual.result c.from_residual.ensures.1 in
    let k = compare_barred c.args.self.now c.args.left c.args.right (length c.args.work.now) _ c.in_err-admit.ensures in
    rw (p.1, p.2) (record { kept = k; carries = carries_on k; unaltered = refl })

pub compare-requires-clause-given : goal.compare-requires-clause-given
compare-requires-clause-given g c =
    let s = c.args.self.now in
    subst (λ l. Given (take s.used l) c.args.work.now c.args.left c.args.right) (sym c.as_mut_slice.ensures.value)
    (given (Coded-set g.row.L.coded) s c.args.work.now c.args.left c.args.right c.in_ok-admit.ensures.0
    c.in_ok-admit.ensures.1)

pub returns : goal.returns
returns g c =
    let s = c.args.self.now in
    let filled = with_items_is s.cells c.compare.new.cells (c.compare.ensures.as_many ∙ c.as_mut_slice.ensures.len) in
    let left = ap (λ l. cells_of (take s.used l)) filled ∙ (c.compare.ensures.left
    ∙ ap (λ l. cells_of (take s.used l)) c.as_mut_slice.ensures.value) in
    let k = compare_kept s _ c.args.left c.args.right (length c.args.work.now)
    c.in_ok-admit.ensures.0 c.in_ok-admit.ensures.1 refl c.compare.result
    (subst (λ l. Told (cells_of (take s.used l)) c.args.left c.args.right c.compare.result)
    c.as_mut_slice.ensures.value c.compare.ensures.told) left in
    record { kept = k; carries = carries_on k; unaltered = left }
