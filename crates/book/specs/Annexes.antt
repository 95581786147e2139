-- Annexes: the entries of one book, then those of another. Assumes nothing.
use Rattle.std.specs.Prelude.{◌≡◌, ℕ, List, ◌++◌, take, Some, None, Option}
use Rattle.std.proofs.Math.Logic.{∥∥₁_elim, ∥∥₁_prop}
use Rattle.std.proofs.Common.{arith}
use Rattle.std.proofs.ByRecursion.{All-append, All-take}
use Rattle.std.proofs.lemmas.List.{length-take}
use Rattle.std.specs.List.{slice_get}
use Rattle.book.specs.declared.annex.Place.{Place}
use Rattle.book.specs.declared.annex.Place.TheVariants.{First, Second}
use Rattle.theory.specs.Entries.{BookRules, Entry, EntryRules}

module _ {V : Type 0} where
  -- the entries of the first, then those of the second, ended after 1,024
  abbrev pub annexed : List (Entry V) → List (Entry V) → List (Entry V)
  annexed es fs = take 1024 (es ++ fs)

  -- they keep the rules of a book where both lists do
  pub annexed_rules : {es fs : List (Entry V)} → ∥ BookRules es ∥₁ → ∥ BookRules fs ∥₁ → ∥ BookRules (annexed es fs) ∥₁
  annexed_rules {es} {fs} p q =
      ∥∥₁_elim p ∥∥₁_prop λ r.
      ∥∥₁_elim q ∥∥₁_prop λ s.
      ∣ record {
        few = simp length-take (omega arith);
        entries = All-take EntryRules 1024 (es ++ fs) (All-append EntryRules es fs r.entries s.entries);
      } ∣₁

  -- the entry with that number is one of the first book, or has another number in the second, or is not there
  abbrev pub LiesIn : List (Entry V) → List (Entry V) → ℕ → Option Place → Type 0
  LiesIn es fs i (Some First) = slice_get (annexed es fs) i ≡ slice_get es i
  LiesIn es fs i (Some (Second k)) = slice_get (annexed es fs) i ≡ slice_get fs k
  LiesIn es fs i None = slice_get (annexed es fs) i ≡ None
