-- The rules of an entry's cells: one cell more, one place of many, and what a test of each cell tells.
use Rattle.std.proofs.Common.{◌≡◌, ℕ, zero, suc, ◌<◌, ◌≤◌, Bool, false, List, [], ◌∷◌, map, length, get_or, Some, None, Decides, sym, refl, ap, ◌∙◌, subst, arith}
use Rattle.std.specs.List.{slice_get, enumerate_from, AllByRecursion}
use Rattle.std.specs.Option.{option_map}
use Rattle.std.proofs.lemmas.Option.{slice_get_past, slice_get_read}
use Rattle.theory.specs.Entries.{PartRules, PartsRules, IsNode}
use Rattle.book.specs.declared.entry.EntryCell.{EntryCell}
use Rattle.book.specs.Answers.{part_of}
use Rattle.book.proofs.Deciding.{no_decides, decides_by}

pub nth_map : {X Y : Type 0} (f : X → Y) (xs : List X) (i : ℕ) → slice_get (map f xs) i ≡ option_map f (slice_get xs i)
nth_map f [] i = refl
nth_map f (x ∷ xs) zero = refl
nth_map f (x ∷ xs) (suc i) = nth_map f xs i

module _ {V : Type 0} where
  -- each cell with its place keeps the rules where all do
  to_parts : (j : ℕ) (cells : List (EntryCell V)) →
      AllByRecursion (λ p. PartRules p.0 (part_of p.1)) (enumerate_from j cells) → PartsRules j (map part_of cells)
  to_parts j [] all = tt
  to_parts j (x ∷ xs) all = (all.0, to_parts (suc j) xs (subst (λ k. AllByRecursion (λ p. PartRules p.0 (part_of p.1)) (enumerate_from k xs)) (omega arith) all.1))

  from_parts : (j : ℕ) (cells : List (EntryCell V)) →
      PartsRules j (map part_of cells) → AllByRecursion (λ p. PartRules p.0 (part_of p.1)) (enumerate_from j cells)
  from_parts j [] all = tt
  from_parts j (x ∷ xs) all = (all.0, subst (λ k. AllByRecursion (λ p. PartRules p.0 (part_of p.1)) (enumerate_from k xs)) (omega arith) (from_parts (suc j) xs all.1))

  pub parts_decided : (r : Bool) (cells : List (EntryCell V)) →
      Decides r (AllByRecursion (λ p. PartRules p.0 (part_of p.1)) (enumerate_from 0 cells)) → Decides r (PartsRules 0 (map part_of cells))
  parts_decided r cells d = decides_by r d (to_parts 0 cells) (from_parts 0 cells)

  module _ (cells : List (EntryCell V)) (i : ℕ) (x : EntryCell V) (h : i < length cells) (e : x ≡ get_or cells i x) where
    -- the test of the cell with a number tells of the cell with that number
    pub node_there : (r : Bool) → Decides r (IsNode (Some (part_of x))) → Decides r (IsNode (slice_get (map part_of cells) i))
    node_there r d =
        let f : slice_get (map part_of cells) i ≡ Some (part_of x) =
        nth_map part_of cells i ∙ ap (option_map part_of) (slice_get_read cells (length cells) i x refl h e) in
        subst (λ o. Decides r (IsNode o)) (sym f) d

  pub node_missing : (cells : List (EntryCell V)) (i : ℕ) → length cells ≤ i → Decides false (IsNode (slice_get (map part_of cells) i))
  node_missing cells i h =
      let f : slice_get (map part_of cells) i ≡ None = nth_map part_of cells i ∙ ap (option_map part_of) (slice_get_past cells i h) in
      subst (λ o. Decides false (IsNode o)) (sym f) (no_decides λ z. z)
