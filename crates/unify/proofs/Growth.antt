-- More joins keep equal roots equal.
use Rattle.std.proofs.Common.{◌≡◌, ℕ, zero, suc, ◌≤◌, List, [], ◌∷◌, ◌++◌, length, Some, None, sym, refl, ap, ◌∙◌, arith}
use Rattle.std.specs.List.{slice_get}
use Rattle.unify.specs.Cells.{Content, variable, leaf, node, Cell, joined_at, rejoin, root}
use Rattle.unify.specs.Solved.{Matches, SameRoots, Descends}
use Rattle.unify.specs.Unify.{clear}
use Rattle.unify.proofs.Places.{none_some}
use Rattle.unify.proofs.Roots.{along, root_none, root_some}

pub nth_front : (xs ys : List ℕ) (k x : ℕ) → slice_get xs k ≡ Some x → slice_get (xs ++ ys) k ≡ Some x
nth_front [] ys k x e = absurd (none_some e)
nth_front (z ∷ xs) ys zero x e = e
nth_front (z ∷ xs) ys (suc k) x e = nth_front xs ys k x e

pub nth_last : (xs : List ℕ) (x : ℕ) → slice_get (xs ++ (x ∷ [])) (length xs) ≡ Some x
nth_last [] x = refl
nth_last (z ∷ xs) x = nth_last xs x

pub nth_none : (xs : List ℕ) (k : ℕ) → slice_get xs k ≡ None → length xs ≤ k
nth_none [] k e = omega arith
nth_none (x ∷ xs) zero e = absurd (none_some (sym e))
nth_none (x ∷ xs) (suc k) e = let h : length xs ≤ k = nth_none xs k e in omega arith

module _ {V : Type 0} where
  -- all joins of the one are joins of the other
  abbrev pub More : List (Cell V) → List (Cell V) → Type 0
  More cs ds = (i j : ℕ) → joined_at cs i ≡ Some j → joined_at ds i ≡ Some j

  module _ (cs ds : List (Cell V)) (more : More cs ds) (down : Descends cs) (down' : Descends ds) where
    pub root_on : (i : ℕ) → root ds i ≡ root ds (root cs i)
    root_on = along cs down (λ i. root ds i ≡ root ds (root cs i))
        (λ i e. ap (root ds) (sym (root_none cs i e)))
        (λ i j e h. root_some ds down' i j (more i j e) ∙ (h ∙ ap (root ds) (sym (root_some cs down i j e))))

    pub one_root_on : (i j : ℕ) → root cs i ≡ root cs j → root ds i ≡ root ds j
    one_root_on i j e = root_on i ∙ (ap (root ds) e ∙ sym (root_on j))

    pub same_roots_on : (xs ys : List ℕ) → SameRoots cs xs ys → SameRoots ds xs ys
    same_roots_on [] [] h = tt
    same_roots_on [] (y ∷ ys) h = absurd h
    same_roots_on (x ∷ xs) [] h = absurd h
    same_roots_on (x ∷ xs) (y ∷ ys) h = (one_root_on x y h.0, same_roots_on xs ys h.1)

    pub matches_on : (c d : Content V) → Matches (SameRoots cs) c d → Matches (SameRoots ds) c d
    matches_on variable d m = tt
    matches_on (leaf v) variable m = absurd m
    matches_on (leaf v) (leaf w) m = m
    matches_on (leaf v) (node g ys) m = absurd m
    matches_on (node f xs) variable m = absurd m
    matches_on (node f xs) (leaf w) m = absurd m
    matches_on (node f xs) (node g ys) m = (m.0, same_roots_on xs ys m.1)

  pub clear_last : (trail : List ℕ) (i : ℕ) (cs : List (Cell V)) → clear (trail ++ (i ∷ [])) cs ≡ clear trail (rejoin cs i None)
  unfolding clear
  clear_last [] i cs = refl
  clear_last (k ∷ trail) i cs = ap (λ (l : List (Cell V)). rejoin l k None) (clear_last trail i cs)
