-- Cells keep their meaning through writing, unifying and comparing.
use Rattle.std.proofs.Common.{◌≡◌, ℕ, zero, suc, ◌<◌, ◌≤◌, ◌⊎◌, ◌↔◌, List, [], ◌∷◌, ◌++◌, length, Some, sym, refl, ap, ◌∙◌, subst, inl, inr}
use Rattle.std.proofs.lemmas.Bool.{cases_order}
use Rattle.std.specs.List.{slice_get}
use Rattle.theory.specs.Trees.{Tree, Label, IsTree}
use Rattle.theory.specs.Equations.{Equation, is_node, equal, MeetsAll, Solves, Solvable, Entails, IsAtom}
use Rattle.unify.specs.Cells.{Content, variable, leaf, node, Cell, content_at, root}
use Rattle.unify.specs.Solved.{and_content, stated_from, stated, Solved}
use Rattle.unify.specs.Readings.{reading}
use Rattle.unify.specs.Unify.{Move, went, clash, unify, compare}
use Rattle.unify.specs.Writing.{write}
use Rattle.unify.specs.Theorems.{IsNode, Unified, Compared}
use Rattle.unify.specs.Meaning.{Means, Equated, Entailed, MeaningIsKept}
use Rattle.unify.proofs.Places.{none_some}
use Rattle.unify.proofs.CellLaws.{content_past}
use Rattle.unify.proofs.Roots.{IsVariable}
use Rattle.unify.proofs.CellReads.{meets_reads, reads_root}
use Rattle.unify.proofs.Fitting.{same_node, leaf_node}
use Rattle.unify.proofs.ReadingMeets.{label_is, reading_solves}
use Rattle.unify.proofs.Constants.{other, other_apart, other_small, constant, constant_is_tree}
use Rattle.unify.proofs.Nodes.{meets_nth, node_stated}
use Rattle.unify.proofs.Written.{content_before, content_new, length_write, states_write}
use Rattle.unify.proofs.Unified.{unify_right}
use Rattle.unify.proofs.Compared.{compare_right}

module _ {V : Type 0} where
  meets_both : (ρ : ℕ → Tree V) (es fs : List (Equation V ℕ)) → MeetsAll ρ es → MeetsAll ρ fs → MeetsAll ρ (es ++ fs)
  meets_both ρ [] fs m n = n
  meets_both ρ (e ∷ es) fs m n = (m.0, meets_both ρ es fs m.1 n)

  meets_parts : (ρ : ℕ → Tree V) (es fs : List (Equation V ℕ)) → MeetsAll ρ (es ++ fs) → MeetsAll ρ es × MeetsAll ρ fs
  meets_parts ρ [] fs m = (tt, m)
  meets_parts ρ (e ∷ es) fs m = let h = meets_parts ρ es fs m.1 in ((m.0, h.0), h.1)

  -- an equation stands somewhere in a list
  abbrev In : Equation V ℕ → List (Equation V ℕ) → Type 0
  In e es = (n : ℕ) × (slice_get es n ≡ Some e)

  in_front : (e : Equation V ℕ) (es fs : List (Equation V ℕ)) (n : ℕ) → slice_get es n ≡ Some e → slice_get (es ++ fs) n ≡ Some e
  in_front e [] fs n q = absurd (none_some q)
  in_front e (d ∷ es) fs zero q = q
  in_front e (d ∷ es) fs (suc n) q = in_front e es fs n q

  in_last : (e : Equation V ℕ) (es fs : List (Equation V ℕ)) → slice_get (es ++ (e ∷ fs)) (length es) ≡ Some e
  in_last e [] fs = refl
  in_last e (d ∷ es) fs = in_last e es fs

  none_means : Means {V = V} [] []
  unfolding stated stated_from content_at
  none_means = record { readings = λ ρ t. (λ m. tt, λ m. tt); nodes = λ i f xs e. absurd (subst IsVariable e tt) }

  -- a meaning goes by its readings and its nodes alone
  alike : (cs : List (Cell V)) (es fs : List (Equation V ℕ)) → Means cs es →
      ((ρ : ℕ → Tree V) → ((i : ℕ) → IsTree (ρ i)) → MeetsAll ρ es ↔ MeetsAll ρ fs) →
      ((n i f : ℕ) (xs : List ℕ) → slice_get es n ≡ Some (is_node i f xs) → In (is_node i f xs) fs) → Means cs fs
  alike cs es fs means e h = record {
    readings = λ ρ t. (λ m. (e ρ t).0 ((means.readings ρ t).0 m), λ m. (means.readings ρ t).1 ((e ρ t).1 m));
    nodes = λ i f xs q. let n = means.nodes i f xs q in h n.0 i f xs n.1;
  }

  own_meaning : (cs : List (Cell V)) → Means cs (stated cs)
  own_meaning cs = record { readings = λ ρ t. (λ m. m, λ m. m); nodes = λ i f xs e. node_stated f xs cs i e }

  module _ (cs : List (Cell V)) (es : List (Equation V ℕ)) (means : Means cs es) where
    written_means : (c : Content V) → Means (write cs c) (es ++ and_content (length cs) c [])
    written_means c = record { readings = λ ρ t. (there ρ t, back ρ t); nodes = λ i f xs e. at i f xs e (cases_order i (length cs)) }
      where
        new : List (Equation V ℕ)
        new = and_content (length cs) c []

        there : (ρ : ℕ → Tree V) → ((i : ℕ) → IsTree (ρ i)) → MeetsAll ρ (stated (write cs c)) → MeetsAll ρ (es ++ new)
        there ρ t m =
            let h = meets_parts ρ (stated cs) new (subst (MeetsAll ρ) (states_write cs c) m) in
            meets_both ρ es new ((means.readings ρ t).0 h.0) h.1

        back : (ρ : ℕ → Tree V) → ((i : ℕ) → IsTree (ρ i)) → MeetsAll ρ (es ++ new) → MeetsAll ρ (stated (write cs c))
        back ρ t m =
            let h = meets_parts ρ es new m in
            subst (MeetsAll ρ) (sym (states_write cs c)) (meets_both ρ (stated cs) new ((means.readings ρ t).1 h.0) h.1)

        at : (i f : ℕ) (xs : List ℕ) → content_at (write cs c) i ≡ node f xs → (i ≡ length cs) ⊎ ((i < length cs) ⊎ (length cs < i)) →
            In (is_node i f xs) (es ++ new)
        at i f xs e (inl q) =
            let k : c ≡ node f xs = sym (content_new cs c) ∙ (ap (content_at (write cs c)) (sym q) ∙ e) in
            subst (λ d. In (is_node i f xs) (es ++ and_content (length cs) d [])) (sym k)
            (subst (λ n. In (is_node i f xs) (es ++ (is_node n f xs ∷ []))) q (length es, in_last (is_node i f xs) es []))
        at i f xs e (inr (inl h)) =
            let n = means.nodes i f xs (sym (content_before cs c i h) ∙ e) in (n.0, in_front (is_node i f xs) es new n.0 n.1)
        at i f xs e (inr (inr h)) =
            absurd (subst IsVariable (sym (content_past (write cs c) i (subst (λ n. n ≤ i) (sym (length_write cs c)) h)) ∙ e) tt)

    -- a reading of the cells as one of the equations, and back
    as_theirs : (ρ : ℕ → Tree V) → Solves (stated cs) ρ → Solves es ρ
    as_theirs ρ s = record { trees = s.trees; meets = (means.readings ρ s.trees).0 s.meets }

    as_ours : (ρ : ℕ → Tree V) → Solves es ρ → Solves (stated cs) ρ
    as_ours ρ s = record { trees = s.trees; meets = (means.readings ρ s.trees).1 s.meets }

    module _ (ok : Solved cs) where
      solvable : Solvable es
      solvable =
          let given : ℕ → Tree V = λ i. constant (other 0) in
          ∣ (reading cs given, as_theirs (reading cs given) (reading_solves cs given ok (λ i. constant_is_tree (other 0) (other_small 0)))) ∣₁

      module _ (i : ℕ) where
        at_root : Entails es i (root cs i)
        at_root ρ s = reads_root ρ cs ok.descends (meets_reads ρ cs (as_ours ρ s).meets).joins i

        is_atom : (c : Content V) → content_at cs (root cs i) ≡ c → IsNode c → IsAtom es i
        is_atom variable e h = absurd h
        is_atom (leaf v) e h = absurd h
        is_atom (node f xs) e h = let n = means.nodes (root cs i) f xs e in ∣ (n.0, root cs i, f, xs, n.1, at_root) ∣₁

        -- a root that is no node can be told apart from every node
        unlike_node : (c : Content V) → content_at cs (root cs i) ≡ c → (IsNode c → ⊥) →
            (k y f : ℕ) (ys : List ℕ) → slice_get es k ≡ Some (is_node y f ys) → Entails es i y → ⊥
        unlike_node c e n k y f ys q h = go c e n
          where
            given : ℕ → Tree V
            given j = constant (other f)

            solves : Solves es (reading cs given)
            solves = as_theirs (reading cs given) (reading_solves cs given ok (λ j. constant_is_tree (other f) (other_small f)))

            there : reading cs given i [] ≡ Some (Label.node f (length ys))
            there = h (reading cs given) solves [] ∙ (meets_nth (reading cs given) es solves.meets k (is_node y f ys) q).0

            go : (c : Content V) → content_at cs (root cs i) ≡ c → (IsNode c → ⊥) → ⊥
            go variable e n = other_apart f (same_node V (other f) f 0 (length ys) (sym (label_is cs given i variable e) ∙ there)).0
            go (leaf v) e n = leaf_node v f (length ys) (sym (label_is cs given i (leaf v) e) ∙ there)
            go (node g zs) e n = n tt

        refuted : (c : Content V) → content_at cs (root cs i) ≡ c → (IsNode c → ⊥) → IsAtom es i → ⊥
        refuted c e n h = ∥∥₁_rec (λ x y. absurd x) (λ z. unlike_node c e n z.0 z.1 z.2 z.3 z.4 z.5) h

        is_node_then : (c : Content V) → content_at cs (root cs i) ≡ c → IsAtom es i → IsNode c
        is_node_then variable e h = refuted variable e (λ x. x) h
        is_node_then (leaf v) e h = refuted (leaf v) e (λ x. x) h
        is_node_then (node f xs) e h = tt

        atoms : IsNode (content_at cs (root cs i)) ↔ IsAtom es i
        atoms = (is_atom (content_at cs (root cs i)) refl, is_node_then (content_at cs (root cs i)) refl)

  module _ (cs : List (Cell V)) (es : List (Equation V ℕ)) (means : Means cs es) (a b : ℕ) where
    abbrev and_equal : List (Equation V ℕ)
    and_equal = es ++ (equal a b ∷ [])

    equated : (m : Move V) → Unified cs a b m → Equated and_equal m
    equated (went s) g = (solvable s.cells and_equal means' g.solved, means')
      where
        there : (ρ : ℕ → Tree V) → ((i : ℕ) → IsTree (ρ i)) → MeetsAll ρ (stated s.cells) → MeetsAll ρ and_equal
        there ρ t m = let h = (g.readings ρ).0 m in meets_both ρ es (equal a b ∷ []) ((means.readings ρ t).0 h.0) (h.1, tt)

        back : (ρ : ℕ → Tree V) → ((i : ℕ) → IsTree (ρ i)) → MeetsAll ρ and_equal → MeetsAll ρ (stated s.cells)
        back ρ t m = let h = meets_parts ρ es (equal a b ∷ []) m in (g.readings ρ).1 ((means.readings ρ t).1 h.0, h.1.0)

        at : (i f : ℕ) (xs : List ℕ) → content_at s.cells i ≡ node f xs → In (is_node i f xs) and_equal
        at i f xs e =
            let n = means.nodes i f xs (sym (g.contents.contents i) ∙ e) in
            (n.0, in_front (is_node i f xs) es (equal a b ∷ []) n.0 n.1)

        means' : Means s.cells and_equal
        means' = record { readings = λ ρ t. (there ρ t, back ρ t); nodes = at }
    equated (clash s) g = λ h. ∥∥₁_rec (λ x y. absurd x) (λ z. none z.0 z.1) h
      where
        none : (ρ : ℕ → Tree V) → Solves and_equal ρ → ⊥
        none ρ z =
            let h = meets_parts ρ es (equal a b ∷ []) z.meets in g.hopeless ρ ((means.readings ρ z.trees).1 h.0) h.1.0

    compared : (m : Move V) → Compared cs a b m → Entailed es a b m
    compared (went s) g = λ ρ z. g.entails ρ (as_ours cs es means ρ z)
    compared (clash s) g = λ h. g.apart (h g.ρ (as_theirs cs es means g.ρ g.solves))

pub meaning : (V : Type 0) → MeaningIsKept V
meaning V = record {
  none = none_means;
  alike = alike;
  written = written_means;
  solvable = λ cs es ok means. solvable cs es means ok;
  equated = λ same law cs es ok means a b ha hb. equated cs es means a b (unify same cs a b) (unify_right same law cs ok a b ha hb);
  compared = λ same law cs es ok means a b ha hb. compared cs es means a b (compare same cs a b) (compare_right same law cs ok a b ha hb);
  atoms = λ cs es ok means i. atoms cs es means ok i;
}

pub own_atoms : {V : Type 0} (cs : List (Cell V)) → Solved cs → (i : ℕ) → IsNode (content_at cs (root cs i)) ↔ IsAtom (stated cs) i
own_atoms cs ok i = atoms cs (stated cs) (own_meaning cs) ok i
