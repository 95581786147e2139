-- The first bytes of an output that a form fills are the form.
use Rattle.std.proofs.Common.{◌≡◌, ℕ, ◌-◌, List, length, take, drop, ap, ◌∙◌, arith}
use lib.Seq.{take-append_seam}
use Rattle.leaf.specs.Outputs.{Fills}

pub filled : (before after form : List ℕ) (n : ℕ) → Fills before after form n → take (n - 0) after ≡ form
filled before after form n f =
    let e : n - 0 ≡ length form = omega (arith, f.count) in
    ap (λ k. take k after) e ∙ ap (take (length form)) f.output ∙ take-append_seam form (drop (length form) before)
