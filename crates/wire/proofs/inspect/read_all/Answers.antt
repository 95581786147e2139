use Rattle.std.proofs.Common.{◌≡◌, Some, None, Err, MatchResult, sym, ap, ◌∙◌, subst}
use Rattle.std.proofs.lemmas.Result.{err_from_is_err_and}
use Rattle.form.specs.Meanings.{meaning}
use Rattle.form.proofs.Steps.{meaning_long}
use Rattle.wire.proofs.FirstEntries.{begins}
use Rattle.wire.proofs.inspect.read_all.Goals as goal

pub returns-in_err-entries : goal.returns-in_err-entries
returns-in_err-entries g c =
    let wide = g.L.WireLeaf.wide in
    let reading = g.L.WireLeaf.reading in
    let bs = c.args.bytes.now in
    let h = c.in_err-entries.ensures in
    let p = err_from_is_err_and c.from_residual.result c.from_residual.ensures.1 in
    subst (λ r. MatchResult r (λ _. (meaning wide reading bs).first_fault ≡ None) (λ f. (meaning wide reading bs).first_fault ≡ Some f))
    (sym (p.1 ∙ ap Err p.2)) (ap (λ m. m.first_fault) (meaning_long wide reading bs h.0) ∙ ap Some (sym h.1))

pub loop-init : goal.loop-init
loop-init g c = ap (λ m. m.first_fault) (begins g.L.WireLeaf.wide g.L.WireLeaf.reading c.args.bytes.now c.in_ok-entries.entries c.in_ok-entries.ensures)
