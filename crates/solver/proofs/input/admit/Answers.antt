use Rattle.std.proofs.Common.{◌≡◌, length, take, Err, sym, subst}
use Rattle.std.proofs.lemmas.Result.{err_from_is_err_and}
use Rattle.slate.specs.declared.refusal.Refusal.TheVariants.{NotInUse, NotAnAtom, TooShort}
use Rattle.slate.proofs.Unused.{all_used}
use Rattle.cells.specs.Cells.{cells_of}
use Rattle.solver.specs.Admission.{Admits}
use Rattle.solver.proofs.Stepping.{in_use_number}
use Rattle.solver.proofs.Admitting.{gate_unused, gate_no_atom, gate_short_work, gate_short_frames, admitted}
use Rattle.solver.proofs.input.admit.Goals as goal

pub returns-in_err-all_in_use : goal.returns-in_err-all_in_use
returns-in_err-all_in_use g c =
    let p = err_from_is_err_and c.from_residual.result c.from_residual.ensures.1 in
    let h = c.in_err-all_in_use.ensures in
    let e : c.from_residual.result ≡ Err (NotInUse h.0) = cc (p.1, p.2, h.1) in
    subst (Admits (cells_of (take c.args.used c.args.cells.now)) c.args.used (length c.args.cells.now)
    c.args.goals.now c.args.work c.args.frames c.args.needed) (sym e)
    (λ rest. gate_unused (cells_of (take c.args.used c.args.cells.now)) c.args.used (length c.args.cells.now)
    c.args.goals.now c.args.work c.args.frames c.args.needed
    (in_use_number c.args.used c.args.cells.now c.requires.part) rest h.0 h.2)

pub all_atoms-requires-clause-inside : goal.all_atoms-requires-clause-inside
all_atoms-requires-clause-inside g c =
    all_used c.args.used c.args.goals.now c.in_ok-all_in_use.ensures

pub returns-in_err-all_atoms : goal.returns-in_err-all_atoms
returns-in_err-all_atoms g c =
    let p = err_from_is_err_and c.from_residual-in_err-all_atoms.result c.from_residual-in_err-all_atoms.ensures.1 in
    let h = c.in_err-all_atoms.ensures in
    let e : c.from_residual-in_err-all_atoms.result ≡ Err (NotAnAtom h.0) = cc (p.1, p.2, h.1) in
    subst (Admits (cells_of (take c.args.used c.args.cells.now)) c.args.used (length c.args.cells.now)
    c.args.goals.now c.args.work c.args.frames c.args.needed) (sym e)
    (λ rest. gate_no_atom (cells_of (take c.args.used c.args.cells.now)) c.args.used (length c.args.cells.now)
    c.args.goals.now c.args.work c.args.frames c.args.needed
    (in_use_number c.args.used c.args.cells.now c.requires.part) rest
    c.in_ok-all_in_use.ensures h.0 h.2)

pub returns-in_err-long_enough : goal.returns-in_err-long_enough
returns-in_err-long_enough g c =
    let p = err_from_is_err_and c.from_residual-in_err-long_enough.result c.from_residual-in_err-long_enough.ensures.1 in
    let h = c.in_err-long_enough.ensures in
    let e : c.from_residual-in_err-long_enough.result ≡ Err TooShort = cc (p.1, p.2, h.0) in
    subst (Admits (cells_of (take c.args.used c.args.cells.now)) c.args.used (length c.args.cells.now)
    c.args.goals.now c.args.work c.args.frames c.args.needed) (sym e)
    (λ rest. gate_short_work (cells_of (take c.args.used c.args.cells.now)) c.args.used (length c.args.cells.now)
    c.args.goals.now c.args.work c.args.frames c.args.needed
    (in_use_number c.args.used c.args.cells.now c.requires.part) rest
    c.in_ok-all_in_use.ensures c.in_ok-all_atoms.ensures h.1)

pub returns-then-frames-needed : goal.returns-then-frames-needed
returns-then-frames-needed g c =
    λ rest. gate_short_frames (cells_of (take c.args.used c.args.cells.now)) c.args.used
    (length c.args.cells.now) c.args.goals.now c.args.work c.args.frames c.args.needed
    (in_use_number c.args.used c.args.cells.now c.requires.part) rest
    c.in_ok-all_in_use.ensures c.in_ok-all_atoms.ensures
    c.in_ok-long_enough.ensures c.if-frames-needed.true

pub returns : goal.returns
returns g c =
    admitted (cells_of (take c.args.used c.args.cells.now)) c.args.used
    (length c.args.cells.now) c.args.goals.now c.args.work c.args.frames c.args.needed
    (in_use_number c.args.used c.args.cells.now c.requires.part)
    c.in_ok-all_in_use.ensures c.in_ok-all_atoms.ensures
    c.in_ok-long_enough.ensures c.if-frames-needed.false
