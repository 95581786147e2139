-- Contents that match, and lists of arguments with the same roots.
use Rattle.std.proofs.Common.{◌≡◌, ℕ, zero, suc, List, [], ◌∷◌, length, Some, sym, refl, ap, ◌∙◌, subst}
use Rattle.std.specs.List.{slice_get}
use Rattle.unify.specs.Cells.{Content, variable, leaf, node, Cell, content_at, root}
use Rattle.unify.specs.Solved.{Matches, SameRoots, Solved}
use Rattle.unify.proofs.Places.{none_some, some_same}
use Rattle.unify.proofs.Roots.{along, root_none, root_some}

-- lists of one length
abbrev pub SameLength : List ℕ → List ℕ → Type 0
SameLength xs ys = length xs ≡ length ys

module _ {V : Type 0} where
  pub roots_refl : (cs : List (Cell V)) (xs : List ℕ) → SameRoots cs xs xs
  roots_refl cs [] = tt
  roots_refl cs (x ∷ xs) = (refl, roots_refl cs xs)

  pub roots_trans : (cs : List (Cell V)) (xs ys zs : List ℕ) → SameRoots cs xs ys → SameRoots cs ys zs → SameRoots cs xs zs
  roots_trans cs [] [] [] h k = tt
  roots_trans cs [] [] (z ∷ zs) h k = absurd k
  roots_trans cs [] (y ∷ ys) zs h k = absurd h
  roots_trans cs (x ∷ xs) [] zs h k = absurd h
  roots_trans cs (x ∷ xs) (y ∷ ys) [] h k = absurd k
  roots_trans cs (x ∷ xs) (y ∷ ys) (z ∷ zs) h k = (h.0 ∙ k.0, roots_trans cs xs ys zs h.1 k.1)

  pub roots_length : (cs : List (Cell V)) (xs ys : List ℕ) → SameRoots cs xs ys → length xs ≡ length ys
  roots_length cs [] [] h = refl
  roots_length cs [] (y ∷ ys) h = absurd h
  roots_length cs (x ∷ xs) [] h = absurd h
  roots_length cs (x ∷ xs) (y ∷ ys) h = ap suc (roots_length cs xs ys h.1)

  pub roots_at : (cs : List (Cell V)) (xs ys : List ℕ) → SameRoots cs xs ys → (k x : ℕ) → slice_get xs k ≡ Some x →
      (y : ℕ) × (slice_get ys k ≡ Some y) × (root cs x ≡ root cs y)
  roots_at cs [] [] h k x e = absurd (none_some e)
  roots_at cs [] (y ∷ ys) h k x e = absurd h
  roots_at cs (z ∷ xs) [] h k x e = absurd h
  roots_at cs (z ∷ xs) (y ∷ ys) h zero x e = (y, refl, ap (root cs) (sym (some_same e)) ∙ h.0)
  roots_at cs (z ∷ xs) (y ∷ ys) h (suc k) x e = roots_at cs xs ys h.1 k x e

  pub matches_refl : (cs : List (Cell V)) (c : Content V) → Matches (SameRoots cs) c c
  matches_refl cs variable = tt
  matches_refl cs (leaf v) = refl
  matches_refl cs (node f xs) = (refl, roots_refl cs xs)

  pub matches_trans : (cs : List (Cell V)) (c d e : Content V) →
      Matches (SameRoots cs) c d → Matches (SameRoots cs) d e → Matches (SameRoots cs) c e
  matches_trans cs variable d e m n = tt
  matches_trans cs (leaf v) variable e m n = absurd m
  matches_trans cs (leaf v) (leaf w) variable m n = absurd n
  matches_trans cs (leaf v) (leaf w) (leaf u) m n = m ∙ n
  matches_trans cs (leaf v) (leaf w) (node h zs) m n = absurd n
  matches_trans cs (leaf v) (node g ys) e m n = absurd m
  matches_trans cs (node f xs) variable e m n = absurd m
  matches_trans cs (node f xs) (leaf w) e m n = absurd m
  matches_trans cs (node f xs) (node g ys) variable m n = absurd n
  matches_trans cs (node f xs) (node g ys) (leaf u) m n = absurd n
  matches_trans cs (node f xs) (node g ys) (node h zs) m n = (m.0 ∙ n.0, roots_trans cs xs ys zs m.1 n.1)

  -- in solved form a cell agrees with its root
  pub root_matches : (cs : List (Cell V)) → Solved cs → (i : ℕ) → Matches (SameRoots cs) (content_at cs i) (content_at cs (root cs i))
  root_matches cs ok = along cs ok.descends (λ i. Matches (SameRoots cs) (content_at cs i) (content_at cs (root cs i)))
      (λ i e. subst (λ k. Matches (SameRoots cs) (content_at cs i) (content_at cs k)) (sym (root_none cs i e)) (matches_refl cs (content_at cs i)))
      (λ i j e h. subst (λ k. Matches (SameRoots cs) (content_at cs i) (content_at cs k)) (sym (root_some cs ok.descends i j e))
      (matches_trans cs (content_at cs i) (content_at cs j) (content_at cs (root cs j)) (ok.agrees i j e) h))
