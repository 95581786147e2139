-- The rules of a book, out of a fact kept in a type.
use Rattle.std.proofs.Common.{List}
use Rattle.theory.specs.Entries.{Entry, BookRules}
use Rattle.theory.proofs.OneBookProof.{rules_out}

pub kept : {V : Type 0} {book : List (Entry V)} → ∥ BookRules book ∥₁ → BookRules book
kept = rules_out
