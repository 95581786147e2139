use Rattle.std.proofs.Common.{subst, arith}
use Rattle.std.proofs.lemmas.Result.{err_from_is_err_and}
use Rattle.unify.specs.Cells.{node}
use Rattle.slate.specs.Slates.{Written}
use Rattle.slate.proofs.Answering.{carries_on, node_kept, node_too_many, node_not_in_use, args_writable}
use Rattle.slate.proofs.slate.Slate.node.Goals as goal

pub returns-then-args-gt-MOST_ARGUMENTS : goal.returns-then-args-gt-MOST_ARGUMENTS
returns-then-args-gt-MOST_ARGUMENTS g c =
    let k = node_too_many c.args.self.now c.args.symbol c.args.args.now (omega (arith, c.ranges.symbol))
    c.if-args-gt-MOST_ARGUMENTS.true in
    record { kept = k; carries = carries_on k }

pub returns-in_err-all_in_use : goal.returns-in_err-all_in_use
returns-in_err-all_in_use g c =
    let p = err_from_is_err_and c.from_residual.result c.from_residual.ensures.1 in
    let h = c.in_err-all_in_use.ensures in
    let k = node_not_in_use c.args.self.now c.args.symbol c.args.args.now (omega (arith, c.ranges.symbol))
    c.if-args-gt-MOST_ARGUMENTS.false h.0 h.2 in
    rw (p.1, p.2, h.1) (record { kept = k; carries = carries_on k })

pub write-requires : goal.write-requires
write-requires g c = record {
  counted = omega (arith, c.packed-arguments.ensures.four, c.if-args-gt-MOST_ARGUMENTS.false);
  writable = (
    omega (arith, c.ranges.symbol),
    args_writable c.args.self.now c.args.args.now _
        c.in_ok-all_in_use.ensures c.packed-arguments.ensures.is,
  );
}

pub returns : goal.returns
returns g c =
    let k = node_kept c.args.self.now _ _ c.args.symbol c.args.args.now (omega (arith, c.ranges.symbol))
    c.if-args-gt-MOST_ARGUMENTS.false c.in_ok-all_in_use.ensures
    (subst (λ l. Written c.args.self.now c.write.new.self (node c.args.symbol l) c.write.result)
    c.packed-arguments.ensures.is c.write.ensures) in
    record { kept = k; carries = carries_on k }
