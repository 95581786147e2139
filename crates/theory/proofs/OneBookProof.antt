-- The rules of a book have one proof at most, so that they can be kept in a type and taken out again.
use Rattle.std.proofs.Common.{ℕ, suc, ◌<◌, List, [], ◌∷◌, Some, None, Option, refl}
use mathlib.Core.Logic.{∥∥₁_elim}
use mathlib.Core.List.{is_set}
use native.Mathlib.Bridge.{le_prop}
use native.Mathlib.Nat.{ℕ_set}
use Rattle.std.specs.List.{AllByRecursion, slice_get}
use Rattle.theory.specs.Entries.{Kind, clause, cofact, Part, variable, leaf, node, Entry}
use Rattle.theory.specs.Entries.{BodyRule, PartRules, PartsRules, IsNode, EntryRules, BookRules}

all_once : {X : Type 0} (P : X → Type 0) → ((x : X) → IsProp (P x)) → (xs : List X) → IsProp (AllByRecursion P xs)
all_once P once [] p q = refl
all_once P once (x ∷ xs) p q = λ i. (once x p.0 q.0 i, all_once P once xs p.1 q.1 i)

body_once : (k : Kind) (body : List ℕ) → IsProp (BodyRule k body)
body_once clause body p q = refl
body_once cofact body p q = is_set ℕ_set body [] p q

module _ {V : Type 0} where
  part_once : (j : ℕ) (p : Part V) → IsProp (PartRules j p)
  part_once j variable p q = refl
  part_once j (leaf v) p q = refl
  part_once j (node f args) p q =
      λ i. (
        le_prop p.0 q.0 i,
        le_prop p.1 q.1 i,
        all_once (λ a. a < j) (λ a. le_prop) args p.2 q.2 i,
      )

  parts_once : (j : ℕ) (ps : List (Part V)) → IsProp (PartsRules j ps)
  parts_once j [] p q = refl
  parts_once j (x ∷ ps) p q = λ i. (part_once j x p.0 q.0 i, parts_once (suc j) ps p.1 q.1 i)

  node_once : (o : Option (Part V)) → IsProp (IsNode o)
  node_once None p q = absurd p
  node_once (Some variable) p q = absurd p
  node_once (Some (leaf v)) p q = absurd p
  node_once (Some (node f args)) p q = refl

  entry_once : (e : Entry V) → IsProp (EntryRules e)
  entry_once e p q =
      λ i. record {
        some_part = le_prop p.some_part q.some_part i;
        few_parts = le_prop p.few_parts q.few_parts i;
        parts = parts_once 0 e.parts p.parts q.parts i;
        head = node_once (slice_get e.parts e.head) p.head q.head i;
        few_goals = le_prop p.few_goals q.few_goals i;
        goals = all_once (λ b. IsNode (slice_get e.parts b)) (λ b. node_once (slice_get e.parts b)) e.body p.goals
            q.goals i;
        no_body = body_once e.kind e.body p.no_body q.no_body i;
      }

  pub book_once : (book : List (Entry V)) → IsProp (BookRules book)
  book_once book p q =
      λ i. record {
        few = le_prop p.few q.few i;
        entries = all_once EntryRules entry_once book p.entries q.entries i;
      }

  -- out of a truncation
  pub rules_out : {book : List (Entry V)} → ∥ BookRules book ∥₁ → BookRules book
  rules_out {book} t = ∥∥₁_elim t (book_once book) (λ r. r)
