-- Chains of joins that go down in rank end in a root.
use Rattle.std.proofs.Common.{◌≡◌, ℕ, zero, suc, ◌<◌, ◌≤◌, ◌⊎◌, List, length, Some, None, Option, sym, refl, ap, ◌∙◌, subst, inl, inr, le_refl, le_of_suc-le-suc, not-suc-le-zero, arith}
use Rattle.std.proofs.lemmas.Bool.{cases_lt}
use Rattle.unify.specs.Cells.{Content, variable, leaf, node, Cell, most, content_at, joined_at, rank, rank_of, root, chase, onward}
use Rattle.unify.specs.Solved.{Descends}
use Rattle.unify.proofs.CellLaws.{content_past}

abbrev pub IsVariable : {V : Type 0} → Content V → Type 0
IsVariable variable = Unit {0}
IsVariable (leaf v) = ⊥
IsVariable (node f xs) = ⊥

module _ {V : Type 0} where
  -- what holds of each cell with no join, and goes up along each join, holds of all
  pub along : (cs : List (Cell V)) → Descends cs → (P : ℕ → Type 0) →
      ((i : ℕ) → joined_at cs i ≡ None → P i) →
      ((i j : ℕ) → joined_at cs i ≡ Some j → P j → P i) → (i : ℕ) → P i
  along cs down P ends steps i = below (suc (rank cs i)) i (le_refl _)
    where
      split : (n : ℕ) → ((j : ℕ) → rank cs j < n → P j) → (i : ℕ) → rank cs i ≤ n → (o : Option ℕ) → joined_at cs i ≡ o → P i
      split n below i h None e = ends i e
      split n below i h (Some j) e = steps i j e (below j (let d : rank cs j < rank cs i = down i j e in omega arith))

      below : (n : ℕ) (i : ℕ) → rank cs i < n → P i
      below zero i h = absurd (not-suc-le-zero h)
      below (suc n) i h = split n (below n) i (le_of_suc-le-suc h) (joined_at cs i) refl

  chase_none : (cs : List (Cell V)) (n i : ℕ) → joined_at cs i ≡ None → chase n cs i ≡ i
  unfolding chase
  chase_none cs zero i e = refl
  chase_none cs (suc n) i e = ap (λ o. onward o i (λ j. chase n cs j)) e

  chase_some : (cs : List (Cell V)) (n i j : ℕ) → joined_at cs i ≡ Some j → chase (suc n) cs i ≡ chase n cs j
  unfolding chase
  chase_some cs n i j e = ap (λ o. onward o i (λ j. chase n cs j)) e

  pub root_none : (cs : List (Cell V)) (i : ℕ) → joined_at cs i ≡ None → root cs i ≡ i
  unfolding root
  root_none cs i e = chase_none cs (rank cs i) i e

  module _ (cs : List (Cell V)) (down : Descends cs) where
    -- more than the rank is no more
    enough : (n m i : ℕ) → rank cs i ≤ n → rank cs i ≤ m → chase n cs i ≡ chase m cs i
    enough n m i h k = go n m i h k (joined_at cs i) refl
      where
        go : (n m i : ℕ) → rank cs i ≤ n → rank cs i ≤ m → (o : Option ℕ) → joined_at cs i ≡ o → chase n cs i ≡ chase m cs i
        go n m i h k None e = chase_none cs n i e ∙ sym (chase_none cs m i e)
        go zero m i h k (Some j) e = absurd (let d : rank cs j < rank cs i = down i j e in omega arith)
        go (suc n) zero i h k (Some j) e = absurd (let d : rank cs j < rank cs i = down i j e in omega arith)
        go (suc n) (suc m) i h k (Some j) e =
            let d : rank cs j < rank cs i = down i j e in
            chase_some cs n i j e ∙ (go n m j (omega arith) (omega arith) (joined_at cs j) refl ∙ sym (chase_some cs m i j e))

    pub root_some : (i j : ℕ) → joined_at cs i ≡ Some j → root cs i ≡ root cs j
    unfolding root
    root_some i j e = go (rank cs i) refl
      where
        d : rank cs j < rank cs i
        d = down i j e

        go : (n : ℕ) → rank cs i ≡ n → chase (rank cs i) cs i ≡ chase (rank cs j) cs j
        go zero q = absurd (omega (arith, d))
        go (suc n) q = ap (λ k. chase k cs i) q ∙ (chase_some cs n i j e ∙ enough n (rank cs j) j (omega (arith, d)) (le_refl _))

    pub root_ends : (i : ℕ) → joined_at cs (root cs i) ≡ None
    root_ends = along cs down (λ i. joined_at cs (root cs i) ≡ None)
        (λ i e. subst (λ k. joined_at cs k ≡ None) (sym (root_none cs i e)) e)
        (λ i j e h. subst (λ k. joined_at cs k ≡ None) (sym (root_some i j e)) h)

    pub root_root : (i : ℕ) → root cs (root cs i) ≡ root cs i
    root_root i = root_none cs (root cs i) (root_ends i)

    -- a cell of lower rank than one of the cells is one of them
    written : (d : Content V) (j : ℕ) → (IsVariable d → ⊥) → (length cs ≤ j → d ≡ variable) → (j < length cs) ⊎ (length cs ≤ j) → j < length cs
    written d j bound past (inl q) = q
    written d j bound past (inr q) = absurd (bound (subst IsVariable (sym (past q)) tt))

    inside_of : (c d : Content V) (i j : ℕ) → (length cs ≤ j → d ≡ variable) → i < length cs → length cs ≤ most →
        rank_of d j < rank_of c i → j < length cs
    inside_of variable variable i j past h few r = omega arith
    inside_of (leaf v) variable i j past h few r = omega arith
    inside_of (node f xs) variable i j past h few r = omega arith
    inside_of c (leaf w) i j past h few r = written (leaf w) j (λ v. v) past (cases_lt j (length cs))
    inside_of c (node g ys) i j past h few r = written (node g ys) j (λ v. v) past (cases_lt j (length cs))

    pub target_inside : length cs ≤ most → (i j : ℕ) → joined_at cs i ≡ Some j → i < length cs → j < length cs
    unfolding rank
    target_inside few i j e h = inside_of (content_at cs i) (content_at cs j) i j (content_past cs j) h few (down i j e)

    pub root_inside : length cs ≤ most → (i : ℕ) → i < length cs → root cs i < length cs
    root_inside few = along cs down (λ i. i < length cs → root cs i < length cs)
        (λ i e h. subst (λ k. k < length cs) (sym (root_none cs i e)) h)
        (λ i j e f h. subst (λ k. k < length cs) (sym (root_some i j e)) (f (target_inside few i j e h)))
