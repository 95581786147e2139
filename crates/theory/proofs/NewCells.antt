-- A slate that has a reading keeps one when a cell is written.
use Rattle.std.proofs.Common.{◌≡◌, ℕ, zero, suc, ◌+◌, ◌<◌, ◌≤◌, ◌⊎◌, List, [], ◌∷◌, ◌++◌, map, length, Some, None, sym, refl, ap, ◌∙◌, subst, inl, inr, le_of_suc-le-suc, not-suc-le-zero, add-zero, add-suc, suc-add, zero-add, arith}
use lib.ListN.{length-map}
use Rattle.std.specs.List.{AllByRecursion}
use Rattle.std.proofs.ByRecursion.{All-map}
use Rattle.std.proofs.lemmas.List.{map-id}
use Rattle.std.proofs.lemmas.Bool.{cases_lt}
use Rattle.theory.specs.Trees.{Tree, Same, IsTree, Label, Present, Branches, InRange, Place}
use Rattle.theory.specs.Equations.{Equation, is_leaf, is_node, equal, rename, Solves, Solvable, MeetsAll, Children}
use Rattle.theory.specs.Known.{Names}
use Rattle.theory.proofs.Elements.{all_any}
use Rattle.theory.proofs.Readings.{meets_both, all_names_weaker, Agrees, there_all}

-- the one value or the other
abbrev pub choose : {A P Q : Type 0} → P ⊎ Q → A → A → A
choose (inl p) a b = a
choose (inr q) a b = b

-- the tree of a leaf
module _ {V : Type 0} where
  -- one label at the root
  abbrev leaf_tree : V → Tree V
  leaf_tree v [] = Some (Label.leaf v)
  leaf_tree v (i ∷ p) = None

  -- it is a tree
  leaf_is : (v : V) → IsTree (leaf_tree v)
  leaf_is v = record { root = tt; down = down; up = up; range = range }
    where
      down : (p : List ℕ) (i : ℕ) → Branches (leaf_tree v p) i → Present (leaf_tree v (p ++ (i ∷ [])))
      down [] i b = absurd b
      down (j ∷ p) i b = absurd b

      up : (p : List ℕ) (i : ℕ) → Present (leaf_tree v (p ++ (i ∷ []))) → Branches (leaf_tree v p) i
      up [] i b = absurd b
      up (j ∷ p) i b = absurd b

      range : (p : List ℕ) → InRange (leaf_tree v p)
      range [] = tt
      range (j ∷ p) = tt

-- the tree of a node over some trees
module _ {V : Type 0} where
  -- the label at a place of the i-th tree
  abbrev pick : List (Tree V) → ℕ → Tree V
  pick [] i p = None
  pick (t ∷ ts) zero p = t p
  pick (t ∷ ts) (suc i) p = pick ts i p

  -- the label at the root, and the trees below it
  abbrev pub node_tree : ℕ → List (Tree V) → Tree V
  node_tree f ts [] = Some (Label.node f (length ts))
  node_tree f ts (i ∷ p) = pick ts i p

  -- the i-th tree is a tree, part by part
  pick_root : (ts : List (Tree V)) → AllByRecursion IsTree ts → (i : ℕ) → i < length ts → Present (pick ts i [])
  pick_root [] a i h = absurd (not-suc-le-zero h)
  pick_root (t ∷ ts) a zero h = a.0.root
  pick_root (t ∷ ts) a (suc i) h = pick_root ts a.1 i (le_of_suc-le-suc h)

  pick_in : (ts : List (Tree V)) (i : ℕ) (p : Place) → Present (pick ts i p) → i < length ts
  pick_in [] i p h = absurd h
  pick_in (t ∷ ts) zero p h = omega arith
  pick_in (t ∷ ts) (suc i) p h = let w : i < length ts = pick_in ts i p h in omega arith

  pick_down : (ts : List (Tree V)) → AllByRecursion IsTree ts → (j : ℕ) (p : Place) (i : ℕ) →
      Branches (pick ts j p) i → Present (pick ts j (p ++ (i ∷ [])))
  pick_down [] a j p i b = absurd b
  pick_down (t ∷ ts) a zero p i b = a.0.down p i b
  pick_down (t ∷ ts) a (suc j) p i b = pick_down ts a.1 j p i b

  pick_up : (ts : List (Tree V)) → AllByRecursion IsTree ts → (j : ℕ) (p : Place) (i : ℕ) →
      Present (pick ts j (p ++ (i ∷ []))) → Branches (pick ts j p) i
  pick_up [] a j p i b = absurd b
  pick_up (t ∷ ts) a zero p i b = a.0.up p i b
  pick_up (t ∷ ts) a (suc j) p i b = pick_up ts a.1 j p i b

  pick_range : (ts : List (Tree V)) → AllByRecursion IsTree ts → (j : ℕ) (p : Place) → InRange (pick ts j p)
  pick_range [] a j p = tt
  pick_range (t ∷ ts) a zero p = a.0.range p
  pick_range (t ∷ ts) a (suc j) p = pick_range ts a.1 j p

  -- it is a tree
  pub node_is : (f : ℕ) (ts : List (Tree V)) → f < 65536 → AllByRecursion IsTree ts → IsTree (node_tree f ts)
  node_is f ts hf a = record { root = tt; down = down; up = up; range = range }
    where
      down : (p : List ℕ) (i : ℕ) → Branches (node_tree f ts p) i → Present (node_tree f ts (p ++ (i ∷ [])))
      down [] i b = pick_root ts a i b
      down (j ∷ p) i b = pick_down ts a j p i b

      up : (p : List ℕ) (i : ℕ) → Present (node_tree f ts (p ++ (i ∷ []))) → Branches (node_tree f ts p) i
      up [] i b = pick_in ts i [] b
      up (j ∷ p) i b = pick_up ts a j p i b

      range : (p : List ℕ) → InRange (node_tree f ts p)
      range [] = hf
      range (j ∷ p) = pick_range ts a j p

-- a reading, with another tree from a cell on
module _ {V : Type 0} (used : ℕ) (τ : Tree V) (ρ : ℕ → Tree V) where
  -- the old tree below the cell, and the new one from it on
  abbrev extended : ℕ → Tree V
  extended c = choose (cases_lt c used) (ρ c) τ

  -- below the cell nothing changes
  extended_low : (c : ℕ) → c < used → Same (extended c) (ρ c)
  extended_low c h = go (cases_lt c used)
    where
      bad : used ≤ c → ⊥
      bad q = omega arith

      go : (b : (c < used) ⊎ (used ≤ c)) → Same (choose b (ρ c) τ) (ρ c)
      go (inl p) k = refl
      go (inr q) k = absurd (bad q)

  -- at the cell there is the new tree
  extended_here : Same (extended used) τ
  extended_here = go (cases_lt used used)
    where
      bad : used < used → ⊥
      bad q = omega arith

      go : (b : (used < used) ⊎ (used ≤ used)) → Same (choose b (ρ used) τ) τ
      go (inl p) k = absurd (bad p)
      go (inr q) k = refl

  -- every cell still has a tree
  extended_is : IsTree τ → ((c : ℕ) → IsTree (ρ c)) → (c : ℕ) → IsTree (extended c)
  extended_is a h c = go (cases_lt c used)
    where
      go : (b : (c < used) ⊎ (used ≤ c)) → IsTree (choose b (ρ c) τ)
      go (inl p) = h c
      go (inr q) = a

-- a name for itself changes nothing
rename_same : {V : Type 0} (es : List (Equation V ℕ)) → map (rename (λ c. c)) es ≡ es
rename_same [] = refl
rename_same (is_leaf x v ∷ es) = ap (λ l. is_leaf x v ∷ l) (rename_same es)
rename_same (is_node x f xs ∷ es) = λ i. is_node x f (map-id xs i) ∷ rename_same es i
rename_same (equal x y ∷ es) = ap (λ l. equal x y ∷ l) (rename_same es)

module _ {V : Type 0} (used : ℕ) (es : List (Equation V ℕ)) (low : AllByRecursion (Names (λ c. c < used)) es) where
  -- it meets the equations that name only the cells below
  old : (τ : Tree V) (ρ : ℕ → Tree V) → MeetsAll ρ es → MeetsAll (extended used τ ρ) es
  old τ ρ m =
      let σ : ℕ → Tree V = extended used τ ρ in
      subst (MeetsAll σ) (rename_same es)
      (there_all (λ c. c) σ ρ es
      (all_names_weaker (λ c. c < used) (Agrees (λ c. c) σ ρ) (λ c h. extended_low used τ ρ c h) es low) m)

  -- a leaf can be written in the next cell
  pub with_leaf : (v : V) → Solvable es → Solvable (es ++ (is_leaf used v ∷ []))
  with_leaf v s = ∥∥₁_rec squash₁ (λ z. ∣ reading z.0 z.1 ∣₁) s
    where
      reading : (ρ : ℕ → Tree V) → Solves es ρ → (σ : ℕ → Tree V) × Solves (es ++ (is_leaf used v ∷ [])) σ
      reading ρ w =
          let σ : ℕ → Tree V = extended used (leaf_tree v) ρ in (
            σ,
            record {
              trees = extended_is used (leaf_tree v) ρ (leaf_is v) w.trees;
              meets =
                  meets_both σ es (is_leaf used v ∷ []) (old (leaf_tree v) ρ w.meets)
                  (extended_here used (leaf_tree v) ρ [], tt);
            },
          )

  -- the arguments of the new node have the old trees
  children : (τ t : Tree V) (ρ : ℕ → Tree V) (i : ℕ) (xs : List ℕ) → AllByRecursion (λ c. c < used) xs →
      ((j : ℕ) (p : Place) → t ((i + j) ∷ p) ≡ pick (map ρ xs) j p) → Children (extended used τ ρ) t i xs
  children τ t ρ i [] a h = tt
  children τ t ρ i (x ∷ xs) a h = (
    λ p. subst (λ k. t (k ∷ p) ≡ ρ x p) (add-zero i) (h 0 p) ∙ sym (extended_low used τ ρ x a.0 p),
    children τ t ρ (suc i) xs a.1
        (λ j p. subst (λ k. t (k ∷ p) ≡ pick (map ρ xs) j p) (add-suc i j ∙ sym (suc-add i j)) (h (suc j) p)),
  )

  -- and a node over cells below
  pub with_node : (f : ℕ) (args : List ℕ) → f < 65536 → AllByRecursion (λ c. c < used) args →
      Solvable es → Solvable (es ++ (is_node used f args ∷ []))
  with_node f args hf a s = ∥∥₁_rec squash₁ (λ z. ∣ reading z.0 z.1 ∣₁) s
    where
      reading : (ρ : ℕ → Tree V) → Solves es ρ → (σ : ℕ → Tree V) × Solves (es ++ (is_node used f args ∷ [])) σ
      reading ρ w =
          let τ : Tree V = node_tree f (map ρ args) in
          let σ : ℕ → Tree V = extended used τ ρ in
          let is : AllByRecursion IsTree (map ρ args) =
          All-map IsTree ρ args (all_any (λ c. IsTree (ρ c)) w.trees args) in (
            σ,
            record {
              trees = extended_is used τ ρ (node_is f (map ρ args) hf is) w.trees;
              meets =
                  meets_both σ es (is_node used f args ∷ []) (old τ ρ w.meets) (
                    (
                      extended_here used τ ρ [] ∙ ap (λ n. Some (Label.node f n)) (length-map args ρ),
                      children τ (σ used) ρ 0 args a
                          (λ j p. extended_here used τ ρ ((0 + j) ∷ p)
                          ∙ ap (λ k. pick (map ρ args) k p) (zero-add j)),
                    ),
                    tt,
                  );
            },
          )
