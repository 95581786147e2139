use Rattle.std.proofs.Common.{true, false, length, take, sym, refl, ◌∙◌, subst, subst₂}
use base.Stored.{Coded-set}
use Rattle.std.proofs.lemmas.List.{with_items_is}
use Rattle.std.proofs.lemmas.Result.{err_from_is_err_and}
use Rattle.cells.specs.Cells.{cells_of}
use Rattle.cells.specs.Loops.{Given, Did}
use Rattle.slate.proofs.Answering.{carries_on, given, equate_barred, equate_accepted, equate_refused}
use Rattle.slate.proofs.slate.Slate.equate.Goals as goal

pub returns-in_err-admit : goal.returns-in_err-admit
returns-in_err-admit g c =
    let p = err_from_is_err_and c.from_residual.result c.from_residual.ensures.1 in
    let k = equate_barred c.args.self.now c.args.left c.args.right (length c.args.work.now) _ c.in_err-admit.ensures in
    rw (p.1, p.2) (record { kept = k; carries = carries_on k })

pub unify-requires-clause-given : goal.unify-requires-clause-given
unify-requires-clause-given g c =
    let s = c.args.self.now in
    subst (λ l. Given (take s.used l) c.args.work.now c.args.left c.args.right) (sym c.as_mut_slice.ensures.value)
    (given (Coded-set g.row.L.coded) s c.args.work.now c.args.left c.args.right c.in_ok-admit.ensures.0
    c.in_ok-admit.ensures.1)

pub returns-in-Some : goal.returns-in-Some
returns-in-Some g c =
    let s = c.args.self.now in
    let filled = sym (with_items_is s.cells c.unify.new.cells (c.unify.ensures.as_many ∙ c.as_mut_slice.ensures.len)) in
    let k = equate_accepted s _ c.args.left c.args.right (length c.args.work.now) c.in_ok-admit.ensures.0
    c.in_ok-admit.ensures.1 refl
    (subst₂ (λ l m. Did (cells_of (take s.used l)) (cells_of (take s.used m)) c.args.left c.args.right true)
    c.as_mut_slice.ensures.value filled c.in-Some.ensures.did) in
    record { kept = k; carries = carries_on k }

pub returns-in-None : goal.returns-in-None
returns-in-None g c =
    let s = c.args.self.now in
    let filled = sym (with_items_is s.cells c.unify.new.cells (c.unify.ensures.as_many ∙ c.as_mut_slice.ensures.len)) in
    let k = equate_refused s _ c.args.left c.args.right (length c.args.work.now) c.in_ok-admit.ensures.0
    c.in_ok-admit.ensures.1 refl
    (subst₂ (λ l m. Did (cells_of (take s.used l)) (cells_of (take s.used m)) c.args.left c.args.right false)
    c.as_mut_slice.ensures.value filled c.in-None.ensures.did) in
    record { kept = k; carries = carries_on k }
