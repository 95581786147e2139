-- What holds of the unifier's state from turn to turn.
use Rattle.std.proofs.Common.{◌≡◌, ℕ, suc, ◌+◌, ◌<◌, ◌≤◌, Bool, false, ◌⊎◌, List, [], ◌∷◌, ◌++◌, length, Some, None, sym, refl, ap, ◌∙◌, subst, subst₂, inl, inr, add-zero, arith, length-append}
use Rattle.std.proofs.lemmas.Bool.{cases_eq, cases_order}
use Rattle.std.specs.List.{slice_get}
use Rattle.theory.specs.Trees.{Tree, Same}
use Rattle.unify.specs.Cells.{Content, variable, leaf, node, Cell, content_at, joined_at, rejoin, rank, rank_of, unjoined}
use Rattle.unify.specs.Solved.{Matches, SameRoots, Descends, Solved}
use Rattle.unify.specs.Unify.{State, start, link, next, clear}
use Rattle.unify.proofs.Places.{none_some, some_same, nth_inside}
use Rattle.unify.proofs.CellLaws.{content_rejoin, length_rejoin, joined_here, joined_apart, rejoin_back, unjoined_rejoin}
use Rattle.unify.proofs.Roots.{IsVariable}
use Rattle.unify.proofs.Matching.{SameLength, roots_length}
use Rattle.unify.proofs.CellReads.{Reads}
use Rattle.unify.proofs.Growth.{More, matches_on, nth_front, nth_last, clear_last}

-- the trail has the cell at or after the present place
abbrev pub Owed : {V : Type 0} → State V → ℕ → Type 0
Owed s i = (k : ℕ) × (s.place ≤ k) × (slice_get s.trail k ≡ Some i)

-- from cells, to make a and b one
module _ {V : Type 0} (open_joins : Bool) (old : List (Cell V)) (a b : ℕ) where
  -- every reading that gives a and b one tree gives these two one tree
  abbrev pub Follows : ℕ → ℕ → Type 0
  Follows x y = (ρ : ℕ → Tree V) → Reads old ρ → Same (ρ a) (ρ b) → Same (ρ x) (ρ y)

  pub record Inv (s : State V) : Type 0 where
    pub number : length s.cells ≡ length old
    pub contents : (i : ℕ) → content_at s.cells i ≡ content_at old i
    pub kept : More old s.cells
    pub descends : (i j : ℕ) → joined_at s.cells i ≡ Some j → rank old j < rank old i
    pub labels : (i j : ℕ) → joined_at s.cells i ≡ Some j → Matches SameLength (content_at old i) (content_at old j)
    pub owed : (i j : ℕ) → joined_at s.cells i ≡ Some j →
        Owed s i ⊎ Matches (SameRoots s.cells) (content_at old i) (content_at old j)
    pub follows : (i j : ℕ) → joined_at s.cells i ≡ Some j → Follows i j
    pub written : open_joins ≡ false → (i j : ℕ) → joined_at s.cells i ≡ Some j →
        (joined_at old i ≡ Some j) ⊎ (IsVariable (content_at old i) → ⊥)
    pub undone : clear s.trail s.cells ≡ old
    pub count : unjoined s.cells + length s.trail ≡ unjoined old
    pub within : s.place ≤ length s.trail

  pub inv_rank : (s : State V) → Inv s → (i : ℕ) → rank s.cells i ≡ rank old i
  unfolding rank
  inv_rank s inv i = ap (λ (c : Content V). rank_of c i) (inv.contents i)

  pub inv_descends : (s : State V) → Inv s → Descends s.cells
  inv_descends s inv i j e = subst₂ (λ m n. m < n) (sym (inv_rank s inv j)) (sym (inv_rank s inv i)) (inv.descends i j e)

  only_length : (cs : List (Cell V)) (c d : Content V) → Matches (SameRoots cs) c d → Matches SameLength c d
  only_length cs variable d m = tt
  only_length cs (leaf v) variable m = absurd m
  only_length cs (leaf v) (leaf w) m = m
  only_length cs (leaf v) (node g ys) m = absurd m
  only_length cs (node f xs) variable m = absurd m
  only_length cs (node f xs) (leaf w) m = absurd m
  only_length cs (node f xs) (node g ys) m = (m.0, roots_length cs xs ys m.1)

  pub start_inv : Solved old → Inv (start old)
  unfolding start clear
  start_inv ok = record {
    number = refl;
    contents = λ i. refl;
    kept = λ i j e. e;
    descends = ok.descends;
    labels = λ i j e. only_length old (content_at old i) (content_at old j) (ok.agrees i j e);
    owed = λ i j e. inr (ok.agrees i j e);
    follows = λ i j e ρ r s. r.joins i j e;
    written = λ n i j e. inl e;
    undone = refl;
    count = add-zero (unjoined old);
    within = omega arith;
  }

  -- the entry at the present place is paid for
  pub next_inv : (s : State V) → Inv s → (i : ℕ) → slice_get s.trail s.place ≡ Some i →
      ((j : ℕ) → joined_at s.cells i ≡ Some j → Matches (SameRoots s.cells) (content_at old i) (content_at old j)) → Inv (next s)
  unfolding next
  next_inv s inv i at paid = record {
    number = inv.number;
    contents = inv.contents;
    kept = inv.kept;
    descends = inv.descends;
    labels = inv.labels;
    owed = λ k j e. owing k j e (inv.owed k j e);
    follows = inv.follows;
    written = inv.written;
    undone = inv.undone;
    count = inv.count;
    within = nth_inside s.trail s.place i at;
  }
    where
      later : (k j n : ℕ) → joined_at s.cells k ≡ Some j → s.place ≤ n → slice_get s.trail n ≡ Some k →
          (s.place ≡ n) ⊎ ((s.place < n) ⊎ (n < s.place)) →
          Owed (next s) k ⊎ Matches (SameRoots s.cells) (content_at old k) (content_at old j)
      later k j n e h t (inl q) =
          let same : i ≡ k = some_same (sym at ∙ (ap (slice_get s.trail) q ∙ t)) in
          inr (subst (λ m. Matches (SameRoots s.cells) (content_at old m) (content_at old j)) same
          (paid j (ap (joined_at s.cells) same ∙ e)))
      later k j n e h t (inr (inl q)) = inl (n, q, t)
      later k j n e h t (inr (inr q)) = absurd (omega arith)

      owing : (k j : ℕ) → joined_at s.cells k ≡ Some j → Owed s k ⊎ Matches (SameRoots s.cells) (content_at old k) (content_at old j) →
          Owed (next s) k ⊎ Matches (SameRoots s.cells) (content_at old k) (content_at old j)
      owing k j e (inl o) = later k j o.0 e o.1 o.2 (cases_order s.place o.0)
      owing k j e (inr m) = inr m

  -- one more join, of two roots that fit
  module _ (s : State V) (inv : Inv s) (high low : ℕ) (inside : high < length s.cells) (free : joined_at s.cells high ≡ None) where
    abbrev new : List (Cell V)
    new = rejoin s.cells high (Some low)

    pub here : joined_at new high ≡ Some low
    here = joined_here s.cells high (Some low) inside

    same_content : (i : ℕ) → content_at new i ≡ content_at old i
    same_content i = content_rejoin s.cells high (Some low) i ∙ inv.contents i

    -- a join of the new cells is this one or an old one
    by_cases : (P : ℕ → ℕ → Type 0) → P high low → ((i j : ℕ) → joined_at s.cells i ≡ Some j → P i j) →
        (i j : ℕ) → joined_at new i ≡ Some j → P i j
    by_cases P h k i j e = go (cases_eq i high)
      where
        go : (i ≡ high) ⊎ (i ≡ high → ⊥) → P i j
        go (inl q) = subst₂ P (sym q) (some_same (sym here ∙ (ap (joined_at new) (sym q) ∙ e))) h
        go (inr n) = k i j (sym (joined_apart s.cells high (Some low) i n) ∙ e)

    pub more : More s.cells new
    more i j e = go (cases_eq i high)
      where
        go : (i ≡ high) ⊎ (i ≡ high → ⊥) → joined_at new i ≡ Some j
        go (inl q) = absurd (none_some (sym free ∙ (ap (joined_at s.cells) (sym q) ∙ e)))
        go (inr n) = joined_apart s.cells high (Some low) i n ∙ e

    module _ (lower : rank old low < rank old high) (fit : Matches SameLength (content_at old high) (content_at old low))
        (sound : Follows high low) (bound : open_joins ≡ false → IsVariable (content_at old high) → ⊥) where
      new_descends : (i j : ℕ) → joined_at new i ≡ Some j → rank old j < rank old i
      new_descends = by_cases (λ i j. rank old j < rank old i) lower inv.descends

      pub new_down : Descends new
      unfolding rank
      new_down i j e = subst₂ (λ (c d : Content V). rank_of c j < rank_of d i) (sym (same_content j)) (sym (same_content i)) (new_descends i j e)

      abbrev Still : ℕ → ℕ → Type 0
      Still i j = Owed (link s high low) i ⊎ Matches (SameRoots new) (content_at old i) (content_at old j)

      old_owed : (i j : ℕ) → Owed s i ⊎ Matches (SameRoots s.cells) (content_at old i) (content_at old j) → Still i j
      unfolding link
      old_owed i j (inl o) = inl (o.0, o.1, nth_front s.trail (high ∷ []) o.0 i o.2)
      old_owed i j (inr m) = inr (matches_on s.cells new more (inv_descends s inv) new_down (content_at old i) (content_at old j) m)

      new_owed : Still high low
      unfolding link
      new_owed = inl (length s.trail, inv.within, nth_last s.trail high)

      new_count : unjoined new + length (s.trail ++ (high ∷ [])) ≡ unjoined old
      new_count =
          let m : suc (unjoined new) ≡ unjoined s.cells = unjoined_rejoin s.cells high low inside free in
          let n : unjoined s.cells + length s.trail ≡ unjoined old = inv.count in
          omega (arith, length-append s.trail (high ∷ []))

      pub link_inv : Inv (link s high low)
      unfolding link
      link_inv = record {
        number = length_rejoin s.cells high (Some low) ∙ inv.number;
        contents = same_content;
        kept = λ i j e. more i j (inv.kept i j e);
        descends = new_descends;
        labels = by_cases (λ i j. Matches SameLength (content_at old i) (content_at old j)) fit inv.labels;
        owed = by_cases Still new_owed (λ i j e. old_owed i j (inv.owed i j e));
        follows = by_cases Follows sound inv.follows;
        written = λ n. by_cases (λ i j. (joined_at old i ≡ Some j) ⊎ (IsVariable (content_at old i) → ⊥)) (inr (bound n)) (inv.written n);
        undone = clear_last s.trail high new ∙ (ap (clear s.trail) (rejoin_back s.cells high (Some low) free) ∙ inv.undone);
        count = new_count;
        within = let w : s.place ≤ length s.trail = inv.within in omega (arith, length-append s.trail (high ∷ []));
      }
