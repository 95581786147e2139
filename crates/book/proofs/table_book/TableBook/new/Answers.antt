use Rattle.std.proofs.Common.{arith}
use Rattle.book.proofs.Rows.{good_rules}
use Rattle.book.proofs.table_book.TableBook.new.Goals as goal

pub invariant_of-result : goal.invariant_of-result
invariant_of-result g c =
    record { keeps = ∣ good_rules c.args.cells.now c.args.rows.now _ c.good_rows-good.result (omega arith) c.good_rows-good.ensures ∣₁ }
