-- Where only leaves and nodes were joined, cells with one root have one tree in every reading of the cells before.
use Rattle.std.proofs.Common.{◌≡◌, ℕ, zero, suc, ◌<◌, ◌≤◌, ◌⊎◌, List, [], ◌∷◌, length, Some, None, Option, sym, refl, ap, ◌∙◌, subst, subst₂, inl, inr, zero-add, arith}
use Rattle.std.specs.List.{slice_get}
use Rattle.theory.specs.Trees.{Tree, Label, Same, IsTree, Branches, Place}
use Rattle.unify.specs.Cells.{Content, variable, leaf, node, Cell, content_at, joined_at, root}
use Rattle.unify.specs.Solved.{Matches, SameRoots, Solved}
use Rattle.unify.specs.Readings.{label_here, label_below, label_of_argument}
use Rattle.unify.proofs.Places.{none_some, child_at}
use Rattle.unify.proofs.Roots.{IsVariable, root_none, root_ends}
use Rattle.unify.proofs.Matching.{root_matches, roots_at, roots_length}
use Rattle.unify.proofs.CellReads.{Reads, MeetsContent, reads_root}
use Rattle.unify.proofs.Growth.{More, root_on, nth_none}
use Rattle.unify.proofs.Constants.{nothing_below}

-- what is joined to nothing that could be named is joined to none
pub none_since : (o : Option ℕ) → ((j : ℕ) → o ≡ Some j → ⊥) → o ≡ None
none_since None h = refl
none_since (Some j) h = absurd (h j refl)

nth_past : (xs : List ℕ) (k : ℕ) → length xs ≤ k → slice_get xs k ≡ None
nth_past [] k h = refl
nth_past (x ∷ xs) zero h = absurd (omega arith)
nth_past (x ∷ xs) (suc k) h = nth_past xs k (omega arith)

module _ {V : Type 0} (old new : List (Cell V)) (ok : Solved old) (ok' : Solved new) (more : More old new)
    (contents : (i : ℕ) → content_at new i ≡ content_at old i)
    (written : (i j : ℕ) → joined_at new i ≡ Some j → (joined_at old i ≡ Some j) ⊎ (IsVariable (content_at old i) → ⊥))
    (ρ : ℕ → Tree V) (trees : (i : ℕ) → IsTree (ρ i)) (reads : Reads old ρ) where
  -- an open root stays one
  open_stays : (i : ℕ) → joined_at old i ≡ None → content_at old i ≡ variable → root new i ≡ i
  open_stays i e c = root_none new i (none_since (joined_at new i) (λ j q. go j (written i j q)))
    where
      go : (j : ℕ) → (joined_at old i ≡ Some j) ⊎ (IsVariable (content_at old i) → ⊥) → ⊥
      go j (inl q) = none_some (sym e ∙ q)
      go j (inr n) = n (subst IsVariable (sym c) tt)

  -- an old root and its new root
  module _ (x s : ℕ) (free : joined_at old x ≡ None) (to : root new x ≡ s) where
    matched : Matches (SameRoots new) (content_at old x) (content_at old s)
    matched = subst₂ (λ c d. Matches (SameRoots new) c d) (contents x) (ap (content_at new) to ∙ contents s) (root_matches new ok' x)

    here_root : (c d : Content V) → content_at old x ≡ c → content_at old s ≡ d → Matches (SameRoots new) c d → ρ x [] ≡ label_here d (ρ s [])
    here_root variable d p q m =
        let e : x ≡ s = sym (open_stays x free p) ∙ to in
        subst (λ z. ρ x [] ≡ label_here z (ρ s [])) (sym p ∙ (ap (content_at old) e ∙ q)) (ap (λ n. ρ n []) e)
    here_root (leaf v) variable p q m = absurd m
    here_root (leaf v) (leaf w) p q m =
        let h : MeetsContent ρ x (leaf v) = subst (MeetsContent ρ x) p (reads.contents x) in
        h ∙ ap (λ u. Some (Label.leaf u)) m
    here_root (leaf v) (node g ys) p q m = absurd m
    here_root (node f xs) variable p q m = absurd m
    here_root (node f xs) (leaf w) p q m = absurd m
    here_root (node f xs) (node g ys) p q m =
        let h : MeetsContent ρ x (node f xs) = subst (MeetsContent ρ x) p (reads.contents x) in
        h.0 ∙ (ap (λ n. Some (Label.node n (length xs))) m.0 ∙ ap (λ n. Some (Label.node g n)) (roots_length new xs ys m.1))

    module _ (k : ℕ) (p : Place) (ih : (u v : ℕ) → root new u ≡ root new v → ρ u p ≡ ρ v p) where
      argument : (f : ℕ) (xs ys : List ℕ) → MeetsContent ρ x (node f xs) → SameRoots new xs ys → (o : Option ℕ) → slice_get xs k ≡ o →
          ρ x (k ∷ p) ≡ label_of_argument (slice_get ys k) (λ z. ρ z p)
      argument f xs ys h m None e =
          nothing_below (ρ x) (trees x) k (λ b. absent (subst (λ l. Branches l k) h.0 b)) p
          ∙ ap (λ o. label_of_argument o (λ z. ρ z p)) (sym (nth_past ys k (subst (λ n. n ≤ k) (roots_length new xs ys m) (nth_none xs k e))))
        where
          absent : k < length xs → ⊥
          absent b = let z : length xs ≤ k = nth_none xs k e in omega arith
      argument f xs ys h m (Some u) e =
          let z = roots_at new xs ys m k u e in
          subst (λ n. ρ x (n ∷ p) ≡ ρ u p) (zero-add k) (child_at ρ (ρ x) 0 xs h.1 k u e p)
          ∙ (ih u z.0 z.2 ∙ ap (λ o. label_of_argument o (λ z. ρ z p)) (sym z.1))

      below_root : (c d : Content V) → content_at old x ≡ c → content_at old s ≡ d → Matches (SameRoots new) c d →
          ρ x (k ∷ p) ≡ label_below d (ρ s (k ∷ p)) k (λ z. ρ z p)
      below_root variable d e q m =
          let j : x ≡ s = sym (open_stays x free e) ∙ to in
          subst (λ z. ρ x (k ∷ p) ≡ label_below z (ρ s (k ∷ p)) k (λ z. ρ z p)) (sym e ∙ (ap (content_at old) j ∙ q)) (ap (λ n. ρ n (k ∷ p)) j)
      below_root (leaf v) variable e q m = absurd m
      below_root (leaf v) (leaf w) e q m =
          let h : MeetsContent ρ x (leaf v) = subst (MeetsContent ρ x) e (reads.contents x) in
          nothing_below (ρ x) (trees x) k (λ b. subst (λ l. Branches l k) h b) p
      below_root (leaf v) (node g ys) e q m = absurd m
      below_root (node f xs) variable e q m = absurd m
      below_root (node f xs) (leaf w) e q m = absurd m
      below_root (node f xs) (node g ys) e q m = argument f xs ys (subst (MeetsContent ρ x) e (reads.contents x)) m.1 (slice_get xs k) refl

  at_root : (i : ℕ) → Same (ρ i) (ρ (root old i))
  at_root = reads_root ρ old ok.descends reads.joins

  to_new : (x : ℕ) → root new (root old x) ≡ root new x
  to_new x = sym (root_on old new more ok.descends ok'.descends x)

  here : (x s : ℕ) → root new x ≡ s → ρ x [] ≡ label_here (content_at old s) (ρ s [])
  here x s e = at_root x [] ∙ here_root (root old x) s free to (content_at old (root old x)) (content_at old s) refl refl (matched (root old x) s free to)
    where
      free : joined_at old (root old x) ≡ None
      free = root_ends old ok.descends x

      to : root new (root old x) ≡ s
      to = to_new x ∙ e

  below : (k : ℕ) (p : Place) → ((u v : ℕ) → root new u ≡ root new v → ρ u p ≡ ρ v p) → (x s : ℕ) → root new x ≡ s →
      ρ x (k ∷ p) ≡ label_below (content_at old s) (ρ s (k ∷ p)) k (λ z. ρ z p)
  below k p ih x s e = at_root x (k ∷ p) ∙ below_root (root old x) s free to k p ih (content_at old (root old x)) (content_at old s) refl refl (matched (root old x) s free to)
    where
      free : joined_at old (root old x) ≡ None
      free = root_ends old ok.descends x

      to : root new (root old x) ≡ s
      to = to_new x ∙ e

  pub bisimilar : (p : Place) (x y : ℕ) → root new x ≡ root new y → ρ x p ≡ ρ y p
  bisimilar [] x y e = here x (root new y) e ∙ sym (here y (root new y) refl)
  bisimilar (k ∷ p) x y e = below k p (bisimilar p) x (root new y) e ∙ sym (below k p (bisimilar p) y (root new y) refl)
