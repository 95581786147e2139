-- The equations that cells stand for, and what writing, unifying and comparing make of them. Assumes nothing.
use Rattle.std.specs.Prelude.{◌≡◌, ℕ, ◌<◌, Bool, ◌↔◌, List, [], ◌∷◌, ◌++◌, length, Some}
use Rattle.std.specs.List.{slice_get}
use Rattle.theory.specs.Trees.{Tree, IsTree}
use Rattle.theory.specs.Equations.{Equation, is_node, equal, MeetsAll, Solvable, Entails, IsAtom}
use Rattle.unify.specs.Cells.{Content, node, Cell, content_at, root}
use Rattle.unify.specs.Solved.{and_content, stated, Solved}
use Rattle.unify.specs.Unify.{Move, went, clash, unify, compare}
use Rattle.unify.specs.Writing.{write}
use Rattle.unify.specs.Theorems.{Decides, IsNode}

module _ {V : Type 0} where
  -- the cells have just the readings of the equations, and each of their nodes is one of the equations
  pub record Means (cells : List (Cell V)) (es : List (Equation V ℕ)) : Type 0 where
    pub readings : (ρ : ℕ → Tree V) → ((i : ℕ) → IsTree (ρ i)) → MeetsAll ρ (stated cells) ↔ MeetsAll ρ es
    pub nodes : (i f : ℕ) (xs : List ℕ) → content_at cells i ≡ node f xs →
        (n : ℕ) × (slice_get es n ≡ Some (is_node i f xs))

  -- unifying goes well where some reading meets the new equation too, and then the cells mean it too
  abbrev pub Equated : List (Equation V ℕ) → Move V → Type 0
  Equated es (went s) = Solvable es × Means s.cells es
  Equated es (clash s) = Solvable es → ⊥

  -- comparing goes well where the equations give the two terms one tree
  abbrev pub Entailed : List (Equation V ℕ) → ℕ → ℕ → Move V → Type 0
  Entailed es a b (went s) = Entails es a b
  Entailed es a b (clash s) = Entails es a b → ⊥

-- Whatever equations cells mean: a meaning goes by readings and nodes alone, and has a reading;
-- a new cell adds what was written, and unifying the new equation; comparing says what is entailed;
-- roots say which terms are atoms.
pub record MeaningIsKept (V : Type 0) : Type 0 where
  pub none : Means {V = V} [] []
  pub alike : (cells : List (Cell V)) (es fs : List (Equation V ℕ)) → Means cells es →
      ((ρ : ℕ → Tree V) → ((i : ℕ) → IsTree (ρ i)) → MeetsAll ρ es ↔ MeetsAll ρ fs) →
      ((n i f : ℕ) (xs : List ℕ) → slice_get es n ≡ Some (is_node i f xs) →
      (m : ℕ) × (slice_get fs m ≡ Some (is_node i f xs))) →
      Means cells fs
  pub written : (cells : List (Cell V)) (es : List (Equation V ℕ)) → Means cells es → (c : Content V) →
      Means (write cells c) (es ++ and_content (length cells) c [])
  pub solvable : (cells : List (Cell V)) (es : List (Equation V ℕ)) → Solved cells → Means cells es →
      Solvable es
  pub equated : (same : V → V → Bool) → Decides same → (cells : List (Cell V)) (es : List (Equation V ℕ)) →
      Solved cells → Means cells es → (a b : ℕ) → a < length cells → b < length cells →
      Equated (es ++ (equal a b ∷ [])) (unify same cells a b)
  pub compared : (same : V → V → Bool) → Decides same → (cells : List (Cell V)) (es : List (Equation V ℕ)) →
      Solved cells → Means cells es → (a b : ℕ) → a < length cells → b < length cells →
      Entailed es a b (compare same cells a b)
  pub atoms : (cells : List (Cell V)) (es : List (Equation V ℕ)) → Solved cells → Means cells es → (i : ℕ) →
      IsNode (content_at cells (root cells i)) ↔ IsAtom es i
