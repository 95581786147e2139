-- Each node written is among the equations stated.
use Rattle.std.proofs.Common.{◌≡◌, ℕ, zero, suc, ◌+◌, List, [], ◌∷◌, Some, None, Option, sym, refl, ◌∙◌, subst, add-zero, add-suc, suc-add, zero-add}
use Rattle.std.specs.List.{slice_get}
use Rattle.theory.specs.Trees.{Tree}
use Rattle.theory.specs.Equations.{Equation, is_node, Meets, MeetsAll}
use Rattle.unify.specs.Cells.{Content, variable, leaf, node, Cell, content_at}
use Rattle.unify.specs.Solved.{stated, stated_from, and_content, and_join}
use Rattle.unify.specs.Theorems.{IsNode}
use Rattle.unify.proofs.Places.{none_some, some_same}

module _ {V : Type 0} where
  pub meets_nth : (ρ : ℕ → Tree V) (es : List (Equation V ℕ)) → MeetsAll ρ es → (k : ℕ) (e : Equation V ℕ) → slice_get es k ≡ Some e → Meets ρ e
  meets_nth ρ [] m k e q = absurd (none_some q)
  meets_nth ρ (d ∷ es) m zero e q = subst (Meets ρ) (some_same q) m.0
  meets_nth ρ (d ∷ es) m (suc k) e q = meets_nth ρ es m.1 k e q

  -- an equation stands somewhere in a list
  abbrev In : Equation V ℕ → List (Equation V ℕ) → Type 0
  In e es = (n : ℕ) × (slice_get es n ≡ Some e)

  past_content : (e : Equation V ℕ) (i : ℕ) (c : Content V) (es : List (Equation V ℕ)) → In e es → In e (and_content i c es)
  past_content e i variable es h = h
  past_content e i (leaf v) es h = (suc h.0, h.1)
  past_content e i (node f xs) es h = (suc h.0, h.1)

  past_join : (e : Equation V ℕ) (i : ℕ) (o : Option ℕ) (es : List (Equation V ℕ)) → In e es → In e (and_join i o es)
  past_join e i None es h = h
  past_join e i (Some j) es h = (suc h.0, h.1)

  node_from : (f : ℕ) (xs : List ℕ) (i : ℕ) (cs : List (Cell V)) (k : ℕ) → content_at cs k ≡ node f xs → In (is_node (i + k) f xs) (stated_from i cs)
  unfolding content_at stated_from
  node_from f xs i [] k e = absurd (subst IsNode (sym e) tt)
  node_from f xs i (c ∷ cs) zero e =
      let es : List (Equation V ℕ) = and_join i c.joined (stated_from (suc i) cs) in
      subst (λ n. In (is_node n f xs) (and_content i c.content es)) (sym (add-zero i))
      (subst (λ z. In (is_node i f xs) (and_content i z es)) (sym e) (0, refl))
  node_from f xs i (c ∷ cs) (suc k) e =
      let es : List (Equation V ℕ) = stated_from (suc i) cs in
      subst (λ n. In (is_node n f xs) (and_content i c.content (and_join i c.joined es))) (suc-add i k ∙ sym (add-suc i k))
      (past_content (is_node (suc i + k) f xs) i c.content (and_join i c.joined es)
      (past_join (is_node (suc i + k) f xs) i c.joined es (node_from f xs (suc i) cs k e)))

  -- a node written is stated
  pub node_stated : (f : ℕ) (xs : List ℕ) (cs : List (Cell V)) (k : ℕ) → content_at cs k ≡ node f xs → In (is_node k f xs) (stated cs)
  unfolding stated
  node_stated f xs cs k e = subst (λ n. In (is_node n f xs) (stated_from 0 cs)) (zero-add k) (node_from f xs 0 cs k e)
