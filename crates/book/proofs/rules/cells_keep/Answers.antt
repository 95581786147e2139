use Rattle.std.proofs.Common.{ℕ, rules, tests}
use Rattle.std.proofs.lemmas.Iterator.{cases_from_all, YieldsList-from_slice}
use Rattle.std.proofs.lemmas.Iterator.Consumers.{YieldsList-from_enumerate}
use Rattle.theory.specs.Entries.{PartRules}
use Rattle.book.specs.declared.entry.EntryCell.{EntryCell}
use Rattle.book.specs.Answers.{part_of}
use Rattle.book.proofs.Deciding.{decides_all}
use Rattle.book.proofs.Parts.{parts_decided}
use Rattle.book.proofs.rules.cells_keep.Goals as goal

pub returns : goal.returns
returns g c =
    let xs = c.args.cells.now in
    let P : ℕ × EntryCell g.row.L.Denot → Type 0 = λ p. PartRules p.0 (part_of p.1) in
    parts_decided _ xs
    (decides_all P _ _
    (cases_from_all _ _ _ P (λ p. P p → ⊥) c.all.ensures.ran (YieldsList-from_enumerate (YieldsList-from_slice xs cc) cc)
    (λ x q k. search (rules, tests)) (λ x q k. search (rules, tests))))
