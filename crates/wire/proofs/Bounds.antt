-- What the rules of a book say of the numbers in it, and how its answers stand to its entries.
use Rattle.std.proofs.Common.{◌≡◌, ℕ, zero, suc, ◌+◌, ◌<◌, ◌≤◌, List, [], ◌∷◌, ◌++◌, length, Some, None, Option, sym, refl, ap, ◌∙◌, append_assoc, arith}
use mathlib.Core.Logic.{∥∥₁_elim}
use native.Mathlib.Bridge.{le_prop}
use Rattle.std.specs.List.{slice_get, AllByRecursion, flat_map}
use Rattle.std.specs.Option.{option_map}
use Rattle.std.proofs.lemmas.List.{length-append}
use Rattle.leaf.specs.Bytes.{two_bytes}
use Rattle.theory.specs.Entries.{BookRules, Entry, EntryRules, Kind, clause, cofact, Part, PartRules, PartsRules, variable, leaf, node}
use Rattle.book.specs.declared.entry.Outline.{Outline}
use Rattle.book.specs.Answers.{cell_in, goal_in, kind_of, of_kind, outline_of}
use Rattle.form.specs.Fields.{field_form}
use Rattle.form.specs.Forms.{contents_form, entry_form, entry_tag, goals_form, part_form}
use Rattle.wire.specs.Writes.{arguments, body_in, parts_in, shown}

-- there is an element at each place of a list
pub there : {X : Type 0} (xs : List X) (j : ℕ) → j < length xs → slice_get xs j ≡ None → ⊥
there [] j h e = omega arith
there (x ∷ xs) zero h e = let z : ◌≡◌ {A = ℕ} 0 1 = cc in omega arith
there (x ∷ xs) (suc j) h e = there xs j (omega arith) e

kind_there : (k : Kind) → kind_of (of_kind k) ≡ k
kind_there clause = refl
kind_there cofact = refl

module _ {V : Type 0} where
  pub few_entries : {es : List (Entry V)} → ∥ BookRules es ∥₁ → length es ≤ 1024
  few_entries r = ∥∥₁_elim r le_prop (λ b. b.few)

  parts_few : (es : List (Entry V)) → AllByRecursion EntryRules es → (i : ℕ) → length (parts_in (slice_get es i)) ≤ 64
  parts_few [] r i = omega arith
  parts_few (e ∷ es) r zero = r.0.few_parts
  parts_few (e ∷ es) r (suc i) = parts_few es r.1 i

  pub few_parts : {es : List (Entry V)} → ∥ BookRules es ∥₁ → (i : ℕ) → length (parts_in (slice_get es i)) ≤ 64
  few_parts {es} r i = ∥∥₁_elim r le_prop (λ b. parts_few es b.entries i)

  goals_few : (es : List (Entry V)) → AllByRecursion EntryRules es → (i : ℕ) → length (body_in (slice_get es i)) ≤ 8
  goals_few [] r i = omega arith
  goals_few (e ∷ es) r zero = r.0.few_goals
  goals_few (e ∷ es) r (suc i) = goals_few es r.1 i

  pub few_goals : {es : List (Entry V)} → ∥ BookRules es ∥₁ → (i : ℕ) → length (body_in (slice_get es i)) ≤ 8
  few_goals {es} r i = ∥∥₁_elim r le_prop (λ b. goals_few es b.entries i)

  part_few : (j : ℕ) (p : Part V) → PartRules j p → arguments p ≤ 4
  part_few j variable r = omega arith
  part_few j (leaf v) r = omega arith
  part_few j (node f args) r = r.1

  args_few : (k : ℕ) (ps : List (Part V)) → PartsRules k ps → (j : ℕ) (p : Part V) → slice_get ps j ≡ Some p → arguments p ≤ 4
  args_few k [] r j p h = let z : ◌≡◌ {A = ℕ} 0 1 = cc in absurd (omega arith)
  args_few k (q ∷ ps) r zero p h = let e : q ≡ p = cc in omega (arith, part_few k q r.0, ap arguments e)
  args_few k (q ∷ ps) r (suc j) p h = args_few (suc k) ps r.1 j p h

  all_few : (es : List (Entry V)) → AllByRecursion EntryRules es → (i j : ℕ) (p : Part V) → slice_get (parts_in (slice_get es i)) j ≡ Some p → arguments p ≤ 4
  all_few [] r i j p h = let z : ◌≡◌ {A = ℕ} 0 1 = cc in absurd (omega arith)
  all_few (e ∷ es) r zero j p h = args_few 0 e.parts r.0.parts j p h
  all_few (e ∷ es) r (suc i) j p h = all_few es r.1 i j p h

  pub few_args : {es : List (Entry V)} → ∥ BookRules es ∥₁ → (i j : ℕ) (p : Part V) → slice_get (parts_in (slice_get es i)) j ≡ Some p → arguments p ≤ 4
  few_args {es} r i j p h = ∥∥₁_elim r le_prop (λ b. all_few es b.entries i j p h)

  pub cell_is : (o : Option (Entry V)) (j : ℕ) → cell_in o j ≡ slice_get (parts_in o) j
  cell_is None j = refl
  cell_is (Some e) j = refl

  pub goal_is : (o : Option (Entry V)) (k : ℕ) → goal_in o k ≡ slice_get (body_in o) k
  goal_is None k = refl
  goal_is (Some e) k = refl

  -- where there is an outline, there is an entry
  pub outlined : (o : Option (Entry V)) (x : Outline) → Some x ≡ option_map outline_of o → (e : Entry V) × (o ≡ Some e) × (x ≡ outline_of e)
  outlined None x h = let z : ◌≡◌ {A = ℕ} 0 1 = cc in absurd (omega arith)
  outlined (Some e) x h = let s : x ≡ outline_of e = cc in (e, refl, s)

  pub not_outlined : (o : Option (Entry V)) → None ≡ option_map outline_of o → o ≡ None
  not_outlined None h = refl
  not_outlined (Some e) h = let z : ◌≡◌ {A = ℕ} 0 1 = cc in absurd (omega arith)

  module _ (written : V → List ℕ) (o : Option (Entry V)) (x : Outline) (h : Some x ≡ option_map outline_of o) where
    pub cells_count : x.cells ≡ length (parts_in o)
    cells_count = let s = outlined o x h in ap (λ y. y.cells) s.2 ∙ sym (ap (λ p. length (parts_in p)) s.1)

    pub goals_count : x.goals ≡ length (body_in o)
    goals_count = let s = outlined o x h in ap (λ y. y.goals) s.2 ∙ sym (ap (λ p. length (body_in p)) s.1)

    pub contents_size : length (shown (contents_form written) o) ≡ length (flat_map (part_form written) (parts_in o)) + 4 + x.goals
    contents_size =
        let s = outlined o x h in
        let e = s.0 in
        omega (
          arith,
          ap (λ p. length (shown (contents_form written) p)) s.1,
          ap (λ p. length (flat_map (part_form written) (parts_in p))) s.1,
          length-append (flat_map (part_form written) e.parts) (goals_form written e.head e.body),
          ap (λ y. y.goals) s.2,
        )

    pub entry_size : length (shown (entry_form written) o) ≡ 3 + length (shown (contents_form written) o)
    entry_size =
        let s = outlined o x h in
        let e = s.0 in
        omega (arith, ap (λ p. length (shown (contents_form written) p)) s.1, ap (λ p. length (shown (entry_form written) p)) s.1)

    -- what an entry is written as: its first three bytes, its cells and its goals
    pub entry_text : (tag size : ℕ) → tag ≡ entry_tag (kind_of x.kind) → size ≡ length (shown (contents_form written) o) →
        ((tag ∷ two_bytes size) ++ flat_map (part_form written) (parts_in o)) ++ field_form 19 (x.head ∷ body_in o)
        ≡ shown (entry_form written) o
    entry_text tag size t l =
        let s = outlined o x h in
        let e = s.0 in
        let parts = flat_map (part_form written) e.parts in
        let goals = field_form 19 (e.head ∷ e.body) in
        let n = length (contents_form written e) in
        let kind : tag ≡ entry_tag e.kind = t ∙ ap (λ y. entry_tag (kind_of y.kind)) s.2 ∙ ap entry_tag (kind_there e.kind) in
        let long : size ≡ n = l ∙ ap (λ p. length (shown (contents_form written) p)) s.1 in
        ap (λ p. ((tag ∷ two_bytes size) ++ flat_map (part_form written) (parts_in p)) ++ field_form 19 (x.head ∷ body_in p)) s.1
        ∙ ap (λ k. ((tag ∷ two_bytes size) ++ parts) ++ field_form 19 (k ∷ e.body)) (ap (λ y. y.head) s.2)
        ∙ append_assoc (tag ∷ two_bytes size) parts goals
        ∙ ap (λ k. (k ∷ two_bytes size) ++ (parts ++ goals)) kind
        ∙ ap (λ k. (entry_tag e.kind ∷ two_bytes k) ++ (parts ++ goals)) long
        ∙ sym (ap (shown (entry_form written)) s.1)
