use Rattle.theory.proofs.WorkedBookA.{book_a_rules, sitting_a_right}
use Rattle.theory.proofs.WorkedTerms.{looping_right, open_right, refusing_right}
use Rattle.theory.proofs.worked_sittings_are_right.Goals as goal

pub returns : goal.returns
returns c = record {
  book_a_keeps_the_rules = book_a_rules;
  over_book_a = sitting_a_right;
  of_looping_terms = looping_right;
  of_open_cells = open_right;
  of_refusals = refusing_right;
}
