-- What it is, cell by cell, that a reading meets what cells state.
use Rattle.std.proofs.Common.{◌≡◌, ℕ, zero, suc, ◌+◌, List, [], ◌∷◌, length, Some, None, Option, sym, refl, ap, ◌∙◌, subst, add-zero, add-suc, suc-add, zero-add}
use Rattle.theory.specs.Trees.{Tree, Label, Same}
use Rattle.theory.specs.Equations.{Equation, Children, MeetsAll}
use Rattle.unify.specs.Cells.{Content, variable, leaf, node, Cell, content_at, joined_at, root}
use Rattle.unify.specs.Solved.{stated, stated_from, and_content, and_join, Descends}
use Rattle.unify.proofs.Places.{none_some, some_same}
use Rattle.unify.proofs.Roots.{along, root_none, root_some}

module _ {V : Type 0} where
  abbrev pub MeetsContent : (ℕ → Tree V) → ℕ → Content V → Type 0
  MeetsContent ρ i variable = Unit {0}
  MeetsContent ρ i (leaf v) = ρ i [] ≡ Some (Label.leaf v)
  MeetsContent ρ i (node f xs) = (ρ i [] ≡ Some (Label.node f (length xs))) × Children ρ (ρ i) 0 xs

  abbrev MeetsJoin : (ℕ → Tree V) → ℕ → Option ℕ → Type 0
  MeetsJoin ρ i None = Unit {0}
  MeetsJoin ρ i (Some j) = Same (ρ i) (ρ j)

  pub record Reads (cs : List (Cell V)) (ρ : ℕ → Tree V) : Type 0 where
    pub contents : (i : ℕ) → MeetsContent ρ i (content_at cs i)
    pub joins : (i j : ℕ) → joined_at cs i ≡ Some j → Same (ρ i) (ρ j)

  module _ (ρ : ℕ → Tree V) where
    join_is : (i : ℕ) (o : Option ℕ) → ((j : ℕ) → o ≡ Some j → Same (ρ i) (ρ j)) → MeetsJoin ρ i o
    join_is i None h = tt
    join_is i (Some j) h = h j refl

    is_join : (i : ℕ) (o : Option ℕ) → MeetsJoin ρ i o → (j : ℕ) → o ≡ Some j → Same (ρ i) (ρ j)
    is_join i None m j e p = absurd (none_some e)
    is_join i (Some k) m j e p = m p ∙ ap (λ n. ρ n p) (some_same e)

    with_join : (i : ℕ) (o : Option ℕ) (es : List (Equation V ℕ)) → MeetsJoin ρ i o → MeetsAll ρ es → MeetsAll ρ (and_join i o es)
    with_join i None es m all = all
    with_join i (Some j) es m all = (m, all)

    with_content : (i : ℕ) (c : Content V) (es : List (Equation V ℕ)) → MeetsContent ρ i c → MeetsAll ρ es → MeetsAll ρ (and_content i c es)
    with_content i variable es m all = all
    with_content i (leaf v) es m all = (m, all)
    with_content i (node f xs) es m all = (m, all)

    of_join : (i : ℕ) (o : Option ℕ) (es : List (Equation V ℕ)) → MeetsAll ρ (and_join i o es) → MeetsJoin ρ i o × MeetsAll ρ es
    of_join i None es all = (tt, all)
    of_join i (Some j) es all = all

    of_content : (i : ℕ) (c : Content V) (es : List (Equation V ℕ)) → MeetsAll ρ (and_content i c es) → MeetsContent ρ i c × MeetsAll ρ es
    of_content i variable es all = (tt, all)
    of_content i (leaf v) es all = all
    of_content i (node f xs) es all = all

    -- what is to hold of the k-th cell from the i-th on
    abbrev At : ℕ → List (Cell V) → ℕ → Type 0
    At n cs k = MeetsContent ρ n (content_at cs k) × MeetsJoin ρ n (joined_at cs k)

    meets_from : (i : ℕ) (cs : List (Cell V)) → ((k : ℕ) → At (i + k) cs k) → MeetsAll ρ (stated_from i cs)
    unfolding stated_from content_at joined_at
    meets_from i [] h = tt
    meets_from i (c ∷ cs) h =
        let here : MeetsContent ρ i c.content × MeetsJoin ρ i c.joined = subst (λ n. At n (c ∷ cs) 0) (add-zero i) (h 0) in
        with_content i c.content (and_join i c.joined (stated_from (suc i) cs)) here.0
        (with_join i c.joined (stated_from (suc i) cs) here.1
        (meets_from (suc i) cs (λ k. subst (λ n. At n cs k) (add-suc i k ∙ sym (suc-add i k)) (h (suc k)))))

    from_meets : (i : ℕ) (cs : List (Cell V)) → MeetsAll ρ (stated_from i cs) → (k : ℕ) → At (i + k) cs k
    unfolding stated_from content_at joined_at
    from_meets i [] m k = (tt, tt)
    from_meets i (c ∷ cs) m zero =
        let h = of_content i c.content (and_join i c.joined (stated_from (suc i) cs)) m in
        let j = of_join i c.joined (stated_from (suc i) cs) h.1 in
        subst (λ n. At n (c ∷ cs) 0) (sym (add-zero i)) (h.0, j.0)
    from_meets i (c ∷ cs) m (suc k) =
        let h = of_content i c.content (and_join i c.joined (stated_from (suc i) cs)) m in
        let j = of_join i c.joined (stated_from (suc i) cs) h.1 in
        subst (λ n. At n cs k) (suc-add i k ∙ sym (add-suc i k)) (from_meets (suc i) cs j.1 k)

    pub reads_meets : (cs : List (Cell V)) → Reads cs ρ → MeetsAll ρ (stated cs)
    unfolding stated
    reads_meets cs r = meets_from 0 cs
        (λ k. subst (λ n. At n cs k) (sym (zero-add k)) (r.contents k, join_is k (joined_at cs k) (r.joins k)))

    pub meets_reads : (cs : List (Cell V)) → MeetsAll ρ (stated cs) → Reads cs ρ
    unfolding stated
    meets_reads cs m = record { contents = λ i. (at i).0; joins = λ i j e. is_join i (joined_at cs i) (at i).1 j e }
      where
        at : (k : ℕ) → At k cs k
        at k = subst (λ n. At n cs k) (zero-add k) (from_meets 0 cs m k)

    -- a reading gives a cell the tree of its root
    pub reads_root : (cs : List (Cell V)) → Descends cs → ((i j : ℕ) → joined_at cs i ≡ Some j → Same (ρ i) (ρ j)) →
        (i : ℕ) → Same (ρ i) (ρ (root cs i))
    reads_root cs down r = along cs down (λ i. Same (ρ i) (ρ (root cs i)))
        (λ i e p. ap (λ n. ρ n p) (sym (root_none cs i e)))
        (λ i j e h p. r i j e p ∙ (h p ∙ ap (λ n. ρ n p) (sym (root_some cs down i j e))))
