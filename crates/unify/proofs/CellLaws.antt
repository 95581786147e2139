-- What a change of one join alters, and what it leaves.
use Rattle.std.proofs.Common.{◌≡◌, ℕ, zero, suc, ◌<◌, ◌≤◌, List, [], ◌∷◌, length, Some, None, Option, sym, refl, ap, le_of_suc-le-suc, not-suc-le-zero, arith}
use Rattle.unify.specs.Cells.{Content, variable, Cell, content_at, joined_at, rejoin, rank, rank_of, one_if_none, unjoined}

one_at_most : (o : Option ℕ) → one_if_none o ≤ 1
one_at_most None = omega arith
one_at_most (Some j) = omega arith

module _ {V : Type 0} where
  pub unjoined_few : (cs : List (Cell V)) → unjoined cs ≤ length cs
  unfolding unjoined
  unjoined_few [] = omega arith
  unjoined_few (c ∷ cs) =
      let h : unjoined cs ≤ length cs = unjoined_few cs in
      let k : one_if_none c.joined ≤ 1 = one_at_most c.joined in omega arith

  pub content_rejoin : (cs : List (Cell V)) (i : ℕ) (t : Option ℕ) (k : ℕ) → content_at (rejoin cs i t) k ≡ content_at cs k
  unfolding content_at rejoin
  content_rejoin [] i t k = refl
  content_rejoin (c ∷ cs) zero t zero = refl
  content_rejoin (c ∷ cs) zero t (suc k) = refl
  content_rejoin (c ∷ cs) (suc i) t zero = refl
  content_rejoin (c ∷ cs) (suc i) t (suc k) = content_rejoin cs i t k

  pub rank_rejoin : (cs : List (Cell V)) (i : ℕ) (t : Option ℕ) (k : ℕ) → rank (rejoin cs i t) k ≡ rank cs k
  unfolding rank
  rank_rejoin cs i t k = ap (λ (c : Content V). rank_of c k) (content_rejoin cs i t k)

  pub length_rejoin : (cs : List (Cell V)) (i : ℕ) (t : Option ℕ) → length (rejoin cs i t) ≡ length cs
  unfolding rejoin
  length_rejoin [] i t = refl
  length_rejoin (c ∷ cs) zero t = refl
  length_rejoin (c ∷ cs) (suc i) t = ap suc (length_rejoin cs i t)

  pub joined_here : (cs : List (Cell V)) (i : ℕ) (t : Option ℕ) → i < length cs → joined_at (rejoin cs i t) i ≡ t
  unfolding joined_at rejoin
  joined_here [] i t h = absurd (not-suc-le-zero h)
  joined_here (c ∷ cs) zero t h = refl
  joined_here (c ∷ cs) (suc i) t h = joined_here cs i t (le_of_suc-le-suc h)

  pub joined_apart : (cs : List (Cell V)) (i : ℕ) (t : Option ℕ) (k : ℕ) → (k ≡ i → ⊥) → joined_at (rejoin cs i t) k ≡ joined_at cs k
  unfolding joined_at rejoin
  joined_apart [] i t k h = refl
  joined_apart (c ∷ cs) zero t zero h = absurd (h refl)
  joined_apart (c ∷ cs) zero t (suc k) h = refl
  joined_apart (c ∷ cs) (suc i) t zero h = refl
  joined_apart (c ∷ cs) (suc i) t (suc k) h = joined_apart cs i t k (λ e. h (ap suc e))

  -- taken back, a join has altered nothing
  pub rejoin_back : (cs : List (Cell V)) (i : ℕ) (t : Option ℕ) → joined_at cs i ≡ None → rejoin (rejoin cs i t) i None ≡ cs
  unfolding joined_at rejoin
  rejoin_back [] i t e = refl
  rejoin_back (c ∷ cs) zero t e = λ k. record { content = c.content; joined = sym e k } ∷ cs
  rejoin_back (c ∷ cs) (suc i) t e = ap (λ (l : List (Cell V)). c ∷ l) (rejoin_back cs i t e)

  -- a join leaves one cell fewer to be joined
  pub unjoined_rejoin : (cs : List (Cell V)) (i j : ℕ) → i < length cs → joined_at cs i ≡ None →
      suc (unjoined (rejoin cs i (Some j))) ≡ unjoined cs
  unfolding joined_at rejoin unjoined
  unjoined_rejoin [] i j h e = absurd (not-suc-le-zero h)
  unjoined_rejoin (c ∷ cs) zero j h e =
      let k : one_if_none c.joined ≡ 1 = ap one_if_none e in omega arith
  unjoined_rejoin (c ∷ cs) (suc i) j h e =
      let k : suc (unjoined (rejoin cs i (Some j))) ≡ unjoined cs = unjoined_rejoin cs i j (le_of_suc-le-suc h) e in omega arith

  -- past the last cell there is nothing
  pub content_past : (cs : List (Cell V)) (i : ℕ) → length cs ≤ i → content_at cs i ≡ variable
  unfolding content_at
  content_past [] i h = refl
  content_past (c ∷ cs) zero h = absurd (not-suc-le-zero h)
  content_past (c ∷ cs) (suc i) h = content_past cs i (le_of_suc-le-suc h)

  pub joined_past : (cs : List (Cell V)) (i : ℕ) → length cs ≤ i → joined_at cs i ≡ None
  unfolding joined_at
  joined_past [] i h = refl
  joined_past (c ∷ cs) zero h = absurd (not-suc-le-zero h)
  joined_past (c ∷ cs) (suc i) h = joined_past cs i (le_of_suc-le-suc h)
