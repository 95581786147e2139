use Rattle.std.proofs.Common.{◌≡◌, ◌<◌, length, sym, ◌∙◌, subst}
use lib.ListN.{length-map}
use Rattle.unify.proofs.Roots.{root_some, root_none, target_inside}
use Rattle.cells.specs.Cells.{cell_of, cells_of}
use Rattle.cells.proofs.chains.root.Goals as goal

pub loop-next-preserved : goal.loop-next-preserved
loop-next-preserved g c =
    let cs = cells_of c.args.cells.now in
    let n : length cs ≡ length c.args.cells.now = length-map c.args.cells.now cell_of in
    let e = sym c.in-Some.ensures in (
      subst (λ m. c.in-Some.next < m) n
          (target_inside cs c.requires.descends c.requires.few c.loop-next.at
          c.in-Some.next e
          (subst (λ m. c.loop-next.at < m) (sym n) c.loop-next.invariant.0)),
      sym (root_some cs c.requires.descends c.loop-next.at c.in-Some.next e) ∙ c.loop-next.invariant.1,
    )

pub returns-clause-is : goal.returns-clause-is
returns-clause-is g c = sym (root_none (cells_of c.args.cells.now) c.loop-next.at (sym c.in_default.ensures))
    ∙ c.loop-next.invariant.1
