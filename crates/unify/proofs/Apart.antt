-- Readings that tell an open root apart from another root.
use Rattle.std.proofs.Common.{◌≡◌, ℕ, ◌<◌, Bool, true, false, cond, eqb, List, [], length, Some, None, sym, refl, ap, ◌∙◌, subst, arith}
use Rattle.std.proofs.lemmas.Bool.{eq-eqb, ne_eqb}
use Rattle.theory.specs.Trees.{Tree, Label, Same, IsTree}
use Rattle.unify.specs.Cells.{Content, variable, leaf, node, Cell, content_at, joined_at}
use Rattle.unify.specs.Solved.{Solved}
use Rattle.unify.specs.Readings.{reading, OpenRoot}
use Rattle.unify.proofs.CellReads.{MeetsContent}
use Rattle.unify.proofs.Fitting.{same_node, leaf_node}
use Rattle.unify.proofs.ReadingMeets.{reading_reads, at_open}
use Rattle.unify.proofs.Constants.{other, other_apart, other_small, constant, constant_is_tree}

-- the symbol at the root r, and another one at all others
abbrev symbol_at : ℕ → ℕ → ℕ → ℕ
symbol_at r f i = cond (eqb i r) f (other f)

-- trees for open roots that single out one of them
abbrev pub spot : {V : Type 0} → ℕ → ℕ → ℕ → Tree V
spot r f i = constant (symbol_at r f i)

pub spot_trees : {V : Type 0} (r f : ℕ) → f < 65536 → (i : ℕ) → IsTree {V = V} (spot r f i)
spot_trees r f h i = constant_is_tree (symbol_at r f i) (go (eqb i r))
  where
    go : (b : Bool) → cond b f (other f) < 65536
    go true = h
    go false = other_small f

-- a symbol that the content does not have
abbrev pub unlike : {V : Type 0} → Content V → ℕ
unlike variable = 0
unlike (leaf v) = 0
unlike (node g ys) = other g

pub unlike_small : {V : Type 0} (c : Content V) → unlike c < 65536
unlike_small variable = omega arith
unlike_small (leaf v) = omega arith
unlike_small (node g ys) = other_small g

module _ {V : Type 0} (cs : List (Cell V)) (ok : Solved cs) (r f : ℕ) where
  abbrev ρ : ℕ → Tree V
  ρ = reading cs (spot r f)

  pub at_spot : OpenRoot cs r → ρ r [] ≡ Some (Label.node f 0)
  at_spot h = at_open cs (spot r f) r h [] ∙ ap (λ b. Some (Label.node (cond b f (other f)) 0)) (eq-eqb r r refl)

  at_other : (t : ℕ) → OpenRoot cs t → (t ≡ r → ⊥) → ρ t [] ≡ Some (Label.node (other f) 0)
  at_other t h n = at_open cs (spot r f) t h [] ∙ ap (λ b. Some (Label.node (cond b f (other f)) 0)) (ne_eqb t r n)

-- an open root and another root
pub told_apart : {V : Type 0} (cs : List (Cell V)) → Solved cs → (r t : ℕ) → OpenRoot cs r → joined_at cs t ≡ None → (t ≡ r → ⊥) →
    (c : Content V) → content_at cs t ≡ c → Same (reading cs (spot r (unlike c)) r) (reading cs (spot r (unlike c)) t) → ⊥
told_apart {V} cs ok r t o free apart variable e s =
    other_apart 0 (sym (same_node V 0 1 0 0 (sym (at_spot cs ok r 0 o) ∙ (s [] ∙ at_other cs ok r 0 t (e, free) apart))).0)
told_apart cs ok r t o free apart (leaf w) e s =
    let h : MeetsContent (reading cs (spot r 0)) t (leaf w) = subst (MeetsContent (reading cs (spot r 0)) t) e ((reading_reads cs (spot r 0) ok).contents t) in
    leaf_node w 0 0 (sym h ∙ (sym (s []) ∙ at_spot cs ok r 0 o))
told_apart {V} cs ok r t o free apart (node g ys) e s =
    let ρ : ℕ → Tree V = reading cs (spot r (other g)) in
    let h : MeetsContent ρ t (node g ys) = subst (MeetsContent ρ t) e ((reading_reads cs (spot r (other g)) ok).contents t) in
    other_apart g (same_node V (other g) g 0 (length ys) (sym (at_spot cs ok r (other g) o) ∙ (s [] ∙ h.0))).0
