use Rattle.std.proofs.Common.{ℕ, map, rules, tests}
use Rattle.std.specs.List.{slice_get}
use Rattle.std.proofs.lemmas.Iterator.{cases_from_all, YieldsList-from_slice}
use Rattle.theory.specs.Entries.{IsNode}
use Rattle.book.specs.Answers.{part_of}
use Rattle.book.proofs.Deciding.{decides_all}
use Rattle.book.proofs.rules.are_nodes.Goals as goal

pub returns : goal.returns
returns g c =
    let xs = c.args.numbers.now in
    let P : ℕ → Type 0 = λ n. IsNode (slice_get (map part_of c.args.cells.now) n) in
    decides_all P _ xs
    (cases_from_all _ _ _ P (λ n. P n → ⊥) c.all.ensures.ran (YieldsList-from_slice xs cc)
    (λ x q k. search (rules, tests)) (λ x q k. search (rules, tests)))
