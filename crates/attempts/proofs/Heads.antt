-- Whether a head's label fits what stands at the goal's root, case by case.
use Rattle.std.proofs.Common.{◌≡◌, ℕ, ◌≤◌, Bool, true, false, cond, eqb, List, map, length, take, Some, sym, ap, ◌∙◌}
use Rattle.std.proofs.lemmas.List.{length-map, length-take-le}
use Rattle.std.proofs.lemmas.Bool.{eq-eqb, ne_eqb}
use Rattle.theory.specs.Entries.{Part, IsNode}
use Rattle.unify.specs.Cells.{Content}
use Rattle.unify.specs.Unify.{fits}
use Rattle.searching.specs.Trying.{content_of}

module _ {L : Type 0} (alike : L → L → Bool) (at : ℕ → ℕ) where
  pub head_open : (c d : Content L) → Content.variable ≡ c → true ≡ fits alike true c d
  unfolding fits
  head_open c d e = ap (λ x. fits alike true x d) e

  pub head_leaf : (v : L) (c : Content L) (p : Part L) → Content.leaf v ≡ c → IsNode (Some p) →
      false ≡ fits alike true c (content_of at p)
  unfolding fits content_of
  head_leaf v c Part.variable e h = absurd h
  head_leaf v c (Part.leaf w) e h = absurd h
  head_leaf v c (Part.node g args) e h = ap (λ x. fits alike true x (Content.node g (map at args))) e

  module _ (f g m k : ℕ) (xs args : List ℕ) (c : Content L) (p : Part L) (e : Content.node f (take m xs) ≡ c)
      (q : Part.node g args ≡ p) (h : m ≤ length xs) (l : length args ≡ k) where
    at_nodes : fits alike true (Content.node f (take m xs)) (content_of at (Part.node g args))
        ≡ fits alike true c (content_of at p)
    at_nodes = λ i. fits alike true (e i) (content_of at (q i))

    counts : eqb m k ≡ eqb (length (take m xs)) (length (map at args))
    counts = λ i. eqb (sym (length-take-le m xs h) i) (sym (length-map args at ∙ l) i)

    pub head_same : f ≡ g → eqb m k ≡ fits alike true c (content_of at p)
    unfolding fits content_of
    head_same s =
        counts
        ∙ (ap (λ b. cond b (eqb (length (take m xs)) (length (map at args))) false) (sym (eq-eqb f g s)) ∙ at_nodes)

    pub head_other : (f ≡ g → ⊥) → eqb f g ≡ fits alike true c (content_of at p)
    unfolding fits content_of
    head_other s =
        ne_eqb f g s
        ∙ (ap (λ b. cond b (eqb (length (take m xs)) (length (map at args))) false) (sym (ne_eqb f g s)) ∙ at_nodes)
