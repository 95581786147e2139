-- The worked sittings about terms: loops, open cells, and a slate of three cells.
use Rattle.std.proofs.Common.{◌≡◌, ℕ, zero, suc, List, [], ◌∷◌, Some, None, sym, refl, ◌∙◌, inl, inr, lit<, lit≤}
use mathlib.Core.HLevel.{⊥_prop}
use mathlib.Core.List.{cons≢nil}
use Rattle.theory.specs.Trees.{Tree, Label, IsTree}
use Rattle.theory.specs.Equations.{Equation, is_node, equal, Solves, Solvable, MeetsAll, Entails, IsAtom}
use Rattle.theory.specs.Search.{granted, failed, done, exhausted}
use Rattle.theory.specs.Sittings.{Right}
use Rattle.theory.specs.Worked.{NoLeaf, looping_sitting, open_sitting, refusing_sitting}
use Rattle.theory.proofs.Elements.{never}
use Rattle.theory.proofs.NewCells.{node_tree, node_is}
use Rattle.theory.proofs.EndlessTrees.{endless, endless_is, one_child}
use Rattle.theory.proofs.WorkedBookA.{no, neither}

-- X = s(X), and with it Y = s(s(Y))
abbrev x_loops : List (Equation NoLeaf ℕ)
x_loops = is_node 1 3 (0 ∷ []) ∷ equal 0 1 ∷ []

abbrev both_loop : List (Equation NoLeaf ℕ)
both_loop = is_node 1 3 (0 ∷ []) ∷ equal 0 1 ∷ is_node 3 3 (2 ∷ []) ∷ is_node 4 3 (3 ∷ []) ∷ equal 2 4 ∷ []

x_solved : Solvable x_loops
x_solved =
    ∣ (λ c. endless, record { trees = λ c. endless_is; meets = ((refl, ((λ p. refl), tt)), ((λ p. refl), tt)) }) ∣₁

both_solved : Solvable both_loop
both_solved =
    ∣ (
      λ c. endless,
      record {
        trees = λ c. endless_is;
        meets = (
          (refl, ((λ p. refl), tt)),
          ((λ p. refl), ((refl, ((λ p. refl), tt)), ((refl, ((λ p. refl), tt)), ((λ p. refl), tt)))),
        );
      },
    ) ∣₁

-- place by place, X has the labels of Y and of s(Y)
module _ (ρ : ℕ → Tree NoLeaf) (s : Solves both_loop ρ) where
  root_x : ρ 0 [] ≡ Some (Label.node 3 1)
  root_x = s.meets.1.0 [] ∙ s.meets.0.0

  root_y : ρ 2 [] ≡ Some (Label.node 3 1)
  root_y = s.meets.1.1.1.1.0 [] ∙ s.meets.1.1.1.0.0

  root_sy : ρ 3 [] ≡ Some (Label.node 3 1)
  root_sy = s.meets.1.1.0.0

  down_x : (p : List ℕ) → ρ 0 (0 ∷ p) ≡ ρ 0 p
  down_x p = s.meets.1.0 (0 ∷ p) ∙ s.meets.0.1.0 p

  down_y : (p : List ℕ) → ρ 2 (0 ∷ p) ≡ ρ 3 p
  down_y p = s.meets.1.1.1.1.0 (0 ∷ p) ∙ s.meets.1.1.1.0.1.0 p

  down_sy : (p : List ℕ) → ρ 3 (0 ∷ p) ≡ ρ 2 p
  down_sy p = s.meets.1.1.0.1.0 p

  same_labels : (p : List ℕ) → (ρ 0 p ≡ ρ 2 p) × (ρ 0 p ≡ ρ 3 p)
  same_labels [] = (root_x ∙ sym root_y, root_x ∙ sym root_sy)
  same_labels (zero ∷ p) =
      (down_x p ∙ ((same_labels p).1 ∙ sym (down_y p)), down_x p ∙ ((same_labels p).0 ∙ sym (down_sy p)))
  same_labels (suc i ∷ p) =
      let none : ρ 0 (suc i ∷ p) ≡ None = one_child (ρ 0) (s.trees 0) 3 root_x i p in (
        none ∙ sym (one_child (ρ 2) (s.trees 2) 3 root_y i p),
        none ∙ sym (one_child (ρ 3) (s.trees 3) 3 root_sy i p),
      )

x_is_y : Entails both_loop 0 2
x_is_y ρ s p = (same_labels ρ s p).0

pub looping_right : Right [] 100 looping_sitting
looping_right = (
  inl (lit< tt, refl),
  (
    (lit< tt, inr (no (lit≤ tt), inl (lit< tt, refl))),
    (
      inr (no (lit≤ tt), inl (x_solved, refl)),
      (
        inl (lit< tt, refl),
        (
          (lit< tt, inr (no (lit≤ tt), inl (lit< tt, refl))),
          (
            (lit< tt, inr (no (lit≤ tt), inl (lit< tt, refl))),
            (
              inr (no (lit≤ tt), inl (both_solved, refl)),
              (
                inr (no (lit≤ tt), inl (x_is_y, refl)),
                tt,
              ),
            ),
          ),
        ),
      ),
    ),
  ),
)

-- a reading that tells two open cells apart
abbrev apart : ℕ → Tree NoLeaf
apart zero = node_tree 0 []
apart (suc n) = node_tree 1 []

apart_is : (n : ℕ) → IsTree (apart n)
apart_is zero = node_is 0 [] (lit< tt) tt
apart_is (suc n) = node_is 1 [] (lit< tt) tt

not_same : Entails {V = NoLeaf} {X = ℕ} [] 0 1 → ⊥
not_same e = let q = e apart (record { trees = apart_is; meets = tt }) [] in never (cc)

abbrev equated : List (Equation NoLeaf ℕ)
equated = equal 0 1 ∷ []

equated_solved : Solvable equated
equated_solved = ∣ (λ c. apart 0, record { trees = λ c. apart_is 0; meets = ((λ p. refl), tt) }) ∣₁

pub open_right : Right [] 100 open_sitting
open_right = (
  inl (lit< tt, refl),
  (
    inl (lit< tt, refl),
    (
      inr (no (lit≤ tt), inr (not_same, refl)),
      (
        inr (no (lit≤ tt), inl (equated_solved, refl)),
        (
          inr (no (lit≤ tt), inl ((λ ρ s p. s.meets.0 p), refl)),
          tt,
        ),
      ),
    ),
  ),
)

-- z, s(z) and s(z,z)
abbrev three : List (Equation NoLeaf ℕ)
three = is_node 0 2 [] ∷ is_node 1 3 (0 ∷ []) ∷ is_node 2 3 (0 ∷ 0 ∷ []) ∷ []

abbrev clashing : List (Equation NoLeaf ℕ)
clashing = is_node 0 2 [] ∷ is_node 1 3 (0 ∷ []) ∷ is_node 2 3 (0 ∷ 0 ∷ []) ∷ equal 1 2 ∷ []

clashes : Solvable clashing → ⊥
clashes s =
    ∥∥₁_rec ⊥_prop
    (λ z.
    let m : MeetsAll z.0 clashing = z.1.meets in
    let e = sym m.1.0.0 ∙ (m.1.1.1.0 [] ∙ m.1.1.0.0) in
    never (cc))
    s

z_atom : IsAtom three 0
z_atom = ∣ (0, 0, 2, [], refl, λ ρ s p. refl) ∣₁

pub refusing_right : Right [] 3 refusing_sitting
refusing_right = (
  (lit< tt, inr (no (lit≤ tt), inl (lit< tt, refl))),
  (
    (lit< tt, inr (no (lit≤ tt), inl (lit< tt, refl))),
    (
      (lit< tt, inr (no (lit≤ tt), inl (lit< tt, refl))),
      (
        inr (no (lit≤ tt), inr (clashes, refl)),
        (
          inr (no (lit≤ tt), (None, refl, inr (neither (lit≤ tt) (lit≤ tt), (granted 0 [], done refl, refl)))),
          (
            inr (
              no (lit≤ tt),
              (
                None,
                inl (z_atom, refl),
                inr (
                  neither (lit≤ tt) (lit≤ tt),
                  (failed 0, exhausted (record { goal = λ e. cons≢nil e; none = refl }), refl),
                ),
              ),
            ),
            (
              refl,
              (
                inl (lit< tt, refl),
                (
                  (lit< tt, inl (lit< tt, refl)),
                  (
                    inr (no (lit≤ tt), refl),
                    tt,
                  ),
                ),
              ),
            ),
          ),
        ),
      ),
    ),
  ),
)
