-- The entries that a goal may still try.
use Rattle.std.proofs.Common.{◌≡◌, ℕ, zero, suc, ◌+◌, ◌-◌, ◌<◌, ◌≤◌, Bool, true, false, ◌⊎◌, List, [], ◌∷◌, length, Some, None, Option, sym, refl, ap, ◌∙◌, le_refl, add-zero, add-suc, inl, inr, arith}
use mathlib.Core.Logic.{∥∥₁_elim}
use native.Mathlib.Bridge.{le_prop}
use Rattle.std.specs.List.{slice_get}
use Rattle.std.proofs.lemmas.Option.{slice_get-get_or}
use Rattle.std.proofs.lemmas.List.{drop_all}
use Rattle.std.proofs.lemmas.Bool.{cases_lt}
use Rattle.theory.proofs.Elements.{none_some}
use Rattle.theory.specs.Entries.{Entry, Kind, clause, cofact, BookRules}
use Rattle.theory.specs.Records.{step_of}
use Rattle.theory.specs.Records as T
use Rattle.theory.specs.Search.{clauses_from, entries_from}
use Rattle.frames.specs.Tries.{entries_left, IsClause, MayTry, NextEntry}
use Rattle.frames.proofs.Following.{drop_some, nth_inside, true_false}

-- some element of a list that has one
head_of : {A : Type 0} (xs : List A) {k : ℕ} → k < length xs → A
head_of [] h = absurd (omega arith)
head_of (x ∷ xs) h = x

module _ {V : Type 0} (book : List (Entry V)) where
  -- an entry's number is below 1,024
  pub few : ∥ BookRules book ∥₁ → (k : ℕ) (e : Entry V) → slice_get book k ≡ Some e → k < 1024
  few rules k e p =
      ∥∥₁_elim rules le_prop (λ r.
      let h : k < length book = nth_inside book k e p in
      let n : length book ≤ 1024 = r.few in
      omega arith)

  -- no entry is left past the end
  pub none_left : (inner : Bool) (k : ℕ) → length book ≤ k → entries_left book inner k ≡ []
  none_left false k h = ap (clauses_from k) (drop_all k book h)
  none_left true k h = ap (entries_from k) (drop_all k book h)

  -- what a clause or a co-fact adds to the tries of an outer goal
  abbrev with_kind : Kind → ℕ → List T.Step → List T.Step
  with_kind k n l = elim k [ clause ↦ step_of 1 n ∷ l | cofact ↦ l ]

  outer_at : (k : ℕ) (e : Entry V) → slice_get book k ≡ Some e →
      entries_left book false k ≡ with_kind e.kind k (entries_left book false (suc k))
  outer_at k e p = ap (clauses_from k) (drop_some book k e p)

  inner_at : (k : ℕ) (e : Entry V) → slice_get book k ≡ Some e →
      entries_left book true k ≡ step_of 3 k ∷ entries_left book true (suc k)
  inner_at k e p = ap (entries_from k) (drop_some book k e p)

  -- a co-fact is no try of an outer goal
  pub passed_over : (k : ℕ) → k < length book → IsClause book k false →
      entries_left book false k ≡ entries_left book false (suc k)
  passed_over k h c = go (slice_get book k) refl
    where
      go : (o : Option (Entry V)) → slice_get book k ≡ o → entries_left book false k ≡ entries_left book false (suc k)
      go None p = absurd (none_some (sym p ∙ slice_get-get_or book k (head_of book h) h))
      go (Some e) p = outer_at k e p ∙ ap (λ x. with_kind x k (entries_left book false (suc k))) (c e p)

  -- a clause is the next try of an outer goal
  pub clause_next : ∥ BookRules book ∥₁ → (k : ℕ) → IsClause book k true → NextEntry book false k (Some k)
  clause_next rules k (e, p, c) = (
    outer_at k e p ∙ ap (λ x. with_kind x k (entries_left book false (suc k))) c,
    record { entry = e; found = p; outer = λ i. c; few = few rules k e p },
  )

  -- any entry is the next try of an inner goal
  pub entry_next : ∥ BookRules book ∥₁ → (k : ℕ) (e : Entry V) → slice_get book k ≡ Some e → NextEntry book true k (Some k)
  entry_next rules k e p = (
    inner_at k e p,
    record { entry = e; found = p; outer = λ i. true_false i; few = few rules k e p },
  )

  -- an entry that may not be tried is passed over
  one_over : (inner : Bool) (k : ℕ) → k < length book → MayTry book inner k false →
      entries_left book inner k ≡ entries_left book inner (suc k)
  one_over true k h m = true_false (sym m)
  one_over false k h m = passed_over k h m

  -- so are many
  all_over : (inner : Bool) (from d : ℕ) → from + d ≤ length book →
      ((k : ℕ) → from ≤ k → k < from + d → MayTry book inner k false) →
      entries_left book inner from ≡ entries_left book inner (from + d)
  all_over inner from zero h f = ap (entries_left book inner) (sym (add-zero from))
  all_over inner from (suc d) h f =
      all_over inner from d (omega arith) (λ k a b. f k a (omega arith))
      ∙ (one_over inner (from + d) (omega arith) (f (from + d) (omega arith) (omega arith))
      ∙ ap (entries_left book inner) (sym (add-suc from d)))

  over_to : (inner : Bool) (from i : ℕ) → from ≤ i → i ≤ length book →
      ((k : ℕ) → from ≤ k → k < i → MayTry book inner k false) → entries_left book inner from ≡ entries_left book inner i
  over_to inner from i a h f =
      let e : from + (i - from) ≡ i = omega arith in
      all_over inner from (i - from) (omega arith) (λ k b c. f k b (omega arith)) ∙ ap (entries_left book inner) e

  -- no entry may be tried
  pub none_first : (inner : Bool) (from : ℕ) → ((k : ℕ) → from ≤ k → k < length book → MayTry book inner k false) →
      entries_left book inner from ≡ []
  none_first inner from f = go (cases_lt from (length book))
    where
      go : (from < length book) ⊎ (length book ≤ from) → entries_left book inner from ≡ []
      go (inl h) = over_to inner from (length book) (omega arith) (le_refl _) f ∙ none_left inner (length book) (le_refl _)
      go (inr h) = none_left inner from h

  -- the first that may be tried is the next try
  pub some_first : ∥ BookRules book ∥₁ → (inner : Bool) (from i : ℕ) → from ≤ i → i < length book → MayTry book inner i true →
      ((k : ℕ) → from ≤ k → k < i → MayTry book inner k false) → NextEntry book inner from (Some i)
  some_first rules true from i a h m f =
      let z = entry_next rules i _ (slice_get-get_or book i (head_of book h) h) in
      (over_to true from i a (omega arith) f ∙ z.0, z.1)
  some_first rules false from i a h m f =
      let z = clause_next rules i m in (over_to false from i a (omega arith) f ∙ z.0, z.1)

  -- the number of an entry has 16 bits
  pub small : ∥ BookRules book ∥₁ → (k : ℕ) → k < length book → k < 65536
  small rules k h = let n : k < 1024 = few rules k _ (slice_get-get_or book k (head_of book h) h) in omega arith
