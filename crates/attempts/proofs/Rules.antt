-- What the rules of a book say of the cells of an entry.
use Rattle.std.proofs.Common.{◌≡◌, ℕ, zero, suc, ◌<◌, List, [], ◌∷◌, length, Some, None, Option, sym, refl, ap, subst, arith}
use mathlib.Core.HLevel.{×_prop}
use mathlib.Core.Logic.{∥∥₁_elim}
use native.Mathlib.Bridge.{le_prop}
use Rattle.std.specs.List.{slice_get, AllByRecursion}
use Rattle.theory.specs.Entries.{Entry, EntryRules, BookRules, Part, PartRules, PartsRules, IsNode, variable, leaf, node}
use Rattle.unify.proofs.Places.{none_some, some_same}
use Rattle.book.specs.declared.entry.EntryCell.{EntryCell}
use Rattle.book.specs.declared.entry.EntryCell.TheVariants.{Variable, Leaf, Node}
use Rattle.book.specs.declared.entry.Outline.{Outline}
use Rattle.book.specs.Answers.{part_of, cell_in, outline_at}
use Rattle.attempts.specs.Attempts.{parts_in, parts_at, FewArguments}

below_prop : (j : ℕ) (xs : List ℕ) → IsProp (AllByRecursion (λ a. a < j) xs)
below_prop j [] = λ x y. refl
below_prop j (a ∷ xs) = ×_prop le_prop (below_prop j xs)

-- a place of a list at which something stands
pub nth_within : {X : Type 0} (xs : List X) (k : ℕ) (x : X) → slice_get xs k ≡ Some x → k < length xs
nth_within [] k x e = absurd (none_some e)
nth_within (y ∷ xs) zero x e = omega arith
nth_within (y ∷ xs) (suc k) x e = let h : k < length xs = nth_within xs k x e in omega arith

-- there is an element at each place of a list
pub nth_there : {X : Type 0} (xs : List X) (k : ℕ) → k < length xs → slice_get xs k ≡ None → ⊥
nth_there [] k h e = omega arith
nth_there (y ∷ xs) zero h e = none_some (sym e)
nth_there (y ∷ xs) (suc k) h e = nth_there xs k (omega arith) e

module _ {V : Type 0} where
  -- the rules of a part have one proof at most
  part_prop : (j : ℕ) (p : Part V) → IsProp (PartRules j p)
  part_prop j variable = λ x y. refl
  part_prop j (leaf v) = λ x y. refl
  part_prop j (node f args) =
      λ x y. λ i. (le_prop x.0 y.0 i, le_prop x.1 y.1 i, below_prop j args x.2 y.2 i)

  parts_prop : (j : ℕ) (ps : List (Part V)) → IsProp (PartsRules j ps)
  parts_prop j [] = λ x y. refl
  parts_prop j (p ∷ ps) = ×_prop (part_prop j p) (parts_prop (suc j) ps)

  node_prop : (o : Option (Part V)) → IsProp (IsNode o)
  node_prop None = λ x y. absurd x
  node_prop (Some variable) = λ x y. absurd x
  node_prop (Some (leaf v)) = λ x y. absurd x
  node_prop (Some (node f args)) = λ x y. refl

  parts_of : (es : List (Entry V)) → AllByRecursion EntryRules es → (i : ℕ) → PartsRules 0 (parts_at es i)
  parts_of [] r i = tt
  parts_of (e ∷ es) r zero = r.0.parts
  parts_of (e ∷ es) r (suc i) = parts_of es r.1 i

  -- the cells of an entry keep the rules
  pub entry_parts : (es : List (Entry V)) → ∥ BookRules es ∥₁ → (i : ℕ) → PartsRules 0 (parts_at es i)
  entry_parts es r i = ∥∥₁_elim r (parts_prop 0 (parts_at es i)) (λ b. parts_of es b.entries i)

  -- there is a node
  pub is_there : (o : Option (Part V)) → IsNode o → (p : Part V) × (o ≡ Some p) × IsNode (Some p)
  is_there None h = absurd h
  is_there (Some p) h = (p, refl, h)

  headed : (es : List (Entry V)) → AllByRecursion EntryRules es → (i : ℕ) (x : Outline) → outline_at es i ≡ Some x →
      IsNode (slice_get (parts_at es i) x.head)
  headed [] r i x e = absurd (none_some e)
  headed (b ∷ es) r zero x e = subst (λ y. IsNode (slice_get b.parts y.head)) (some_same e) r.0.head
  headed (b ∷ es) r (suc i) x e = headed es r.1 i x e

  -- the head that an outline names is a node of the entry
  pub head_node : (es : List (Entry V)) → ∥ BookRules es ∥₁ → (i : ℕ) (x : Outline) → outline_at es i ≡ Some x →
      IsNode (slice_get (parts_at es i) x.head)
  head_node es r i x e = ∥∥₁_elim r (node_prop (slice_get (parts_at es i) x.head)) (λ b. headed es b.entries i x e)

  -- an outline counts the cells of the entry
  pub outline_counts : (es : List (Entry V)) (i : ℕ) (x : Outline) → outline_at es i ≡ Some x →
      x.cells ≡ length (parts_at es i)
  outline_counts [] i x e = absurd (none_some e)
  outline_counts (b ∷ es) zero x e = ap (λ y. y.cells) (sym (some_same e))
  outline_counts (b ∷ es) (suc i) x e = outline_counts es i x e

  -- a book's answer to a question for a cell, by the entry's cells
  pub cell_is : (o : Option (Entry V)) (j : ℕ) → cell_in o j ≡ slice_get (parts_in o) j
  cell_is None j = refl
  cell_is (Some e) j = refl

  few_of : (j : ℕ) (c : EntryCell V) → PartRules j (part_of c) → FewArguments c
  few_of j Variable r = tt
  few_of j (Leaf v) r = tt
  few_of j (Node n) r = r.1

  -- a cell of an entry has few arguments
  pub few_at : (k : ℕ) (ps : List (Part V)) → PartsRules k ps → (j : ℕ) (c : EntryCell V) →
      slice_get ps j ≡ Some (part_of c) → FewArguments c
  few_at k [] r j c e = absurd (none_some e)
  few_at k (p ∷ ps) r zero c e = few_of k c (subst (PartRules k) (some_same e) r.0)
  few_at k (p ∷ ps) r (suc j) c e = few_at (suc k) ps r.1 j c e
