use Rattle.std.proofs.Common.{take, rules, tests, subst, sym}
use Rattle.std.proofs.lemmas.Iterator.{IsFirst-from_position, YieldsList-from_slice}
use Rattle.book.specs.Tables.{GoodRows, RowRules}
use Rattle.book.proofs.Rows.{good_until}
use Rattle.book.proofs.good_rows.good_rows.Goals as goal

pub returns : goal.returns
returns g c =
    let cells = c.args.cells.now in
    let rows = c.args.rows.now in
    let first =
    IsFirst-from_position _ _ _ (λ row. RowRules cells row → ⊥) (RowRules cells) c.position.ensures.ran (YieldsList-from_slice (take c.min.result rows) cc)
    (λ x q k. search (rules, tests)) (λ x q k. search (rules, tests)) in
    subst (GoodRows cells rows) (sym c.unwrap_or.ensures) (good_until cells rows c.min.result c.min.ensures c.position.result first)
