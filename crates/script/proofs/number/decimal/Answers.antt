use Rattle.std.proofs.Common.{sym, subst}
use Rattle.script.specs.Numbers.{Reads}
use Rattle.script.proofs.Digits.{no_number}
use Rattle.script.proofs.number.decimal.Goals as goal

pub returns-in_err-value : goal.returns-in_err-value
returns-in_err-value c =
    let l = c.loop-byte in
    subst (Reads c.args.most c.args.word.now) (sym c.from_residual.ensures) (
    no_number c.args.word.now l.byte-index l.value l.invariant.1 c.loop-byte-test.true c.args.most
    c.in_err-value.ensures)
