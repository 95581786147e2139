-- A new cell leaves the others as they are, and keeps them solved.
use Rattle.std.proofs.Common.{◌≡◌, ℕ, zero, suc, ◌+◌, ◌<◌, ◌≤◌, ◌⊎◌, List, [], ◌∷◌, ◌++◌, length, Some, None, Option, sym, refl, ap, ◌∙◌, subst, subst₂, inl, inr, le_of_suc-le-suc, not-suc-le-zero, add-zero, add-suc, suc-add, zero-add, arith}
use Rattle.std.proofs.lemmas.Bool.{cases_lt, cases_order}
use Rattle.std.specs.List.{AllByRecursion}
use Rattle.theory.specs.Equations.{Equation}
use Rattle.unify.specs.Cells.{Content, variable, leaf, node, Cell, most, content_at, joined_at, rank, rank_of}
use Rattle.unify.specs.Solved.{and_content, and_join, stated_from, stated, Matches, SameRoots, Descends, Solved}
use Rattle.unify.specs.Writing.{write, Writable, Wrote, WritingKeepsSolved}
use Rattle.unify.proofs.Places.{none_some}
use Rattle.unify.proofs.CellLaws.{content_past, joined_past}
use Rattle.unify.proofs.Roots.{IsVariable, target_inside}
use Rattle.unify.proofs.Growth.{matches_on}

module _ {V : Type 0} where
  pub content_before : (cs : List (Cell V)) (c : Content V) (i : ℕ) → i < length cs → content_at (write cs c) i ≡ content_at cs i
  unfolding write content_at
  content_before [] c i h = absurd (not-suc-le-zero h)
  content_before (d ∷ cs) c zero h = refl
  content_before (d ∷ cs) c (suc i) h = content_before cs c i (le_of_suc-le-suc h)

  pub content_new : (cs : List (Cell V)) (c : Content V) → content_at (write cs c) (length cs) ≡ c
  unfolding write content_at
  content_new [] c = refl
  content_new (d ∷ cs) c = content_new cs c

  pub joined_write : (cs : List (Cell V)) (c : Content V) (i : ℕ) → joined_at (write cs c) i ≡ joined_at cs i
  unfolding write joined_at
  joined_write [] c zero = refl
  joined_write [] c (suc i) = refl
  joined_write (d ∷ cs) c zero = refl
  joined_write (d ∷ cs) c (suc i) = joined_write cs c i

  pub length_write : (cs : List (Cell V)) (c : Content V) → length (write cs c) ≡ suc (length cs)
  unfolding write
  length_write [] c = refl
  length_write (d ∷ cs) c = ap suc (length_write cs c)

  and_content_front : (i : ℕ) (c : Content V) (es fs : List (Equation V ℕ)) → and_content i c (es ++ fs) ≡ and_content i c es ++ fs
  and_content_front i variable es fs = refl
  and_content_front i (leaf v) es fs = refl
  and_content_front i (node f xs) es fs = refl

  and_join_front : (i : ℕ) (o : Option ℕ) (es fs : List (Equation V ℕ)) → and_join i o (es ++ fs) ≡ and_join i o es ++ fs
  and_join_front i None es fs = refl
  and_join_front i (Some j) es fs = refl

  states_from : (i : ℕ) (cs : List (Cell V)) (c : Content V) → stated_from i (write cs c) ≡ stated_from i cs ++ and_content (i + length cs) c []
  unfolding write stated_from
  states_from i [] c = ap (λ n. and_content n c []) (sym (add-zero i))
  states_from i (d ∷ cs) c =
      let fs : List (Equation V ℕ) = and_content (i + length (d ∷ cs)) c [] in
      let es : List (Equation V ℕ) = stated_from (suc i) cs in
      let shift : suc i + length cs ≡ i + length (d ∷ cs) = suc-add i (length cs) ∙ sym (add-suc i (length cs)) in
      ap (λ l. and_content i d.content (and_join i d.joined l)) (states_from (suc i) cs c ∙ ap (λ n. es ++ and_content n c []) shift)
      ∙ (ap (and_content i d.content) (and_join_front i d.joined es fs) ∙ and_content_front i d.content (and_join i d.joined es) fs)

  pub states_write : (cs : List (Cell V)) (c : Content V) → stated (write cs c) ≡ stated cs ++ and_content (length cs) c []
  unfolding stated
  states_write cs c = states_from 0 cs c ∙ ap (λ n. stated_from 0 cs ++ and_content n c []) (zero-add (length cs))

  module _ (cs : List (Cell V)) (ok : Solved cs) (c : Content V) where
    -- what is joined, and what to, are old cells
    joined_inside : (i j : ℕ) → joined_at cs i ≡ Some j → (i < length cs) × (j < length cs)
    joined_inside i j e = go (cases_lt i (length cs))
      where
        go : (i < length cs) ⊎ (length cs ≤ i) → (i < length cs) × (j < length cs)
        go (inl h) = (h, target_inside cs ok.descends ok.few i j e h)
        go (inr h) = absurd (none_some (sym (joined_past cs i h) ∙ e))

    was : (i j : ℕ) → joined_at (write cs c) i ≡ Some j → joined_at cs i ≡ Some j
    was i j e = sym (joined_write cs c i) ∙ e

    falls : Descends (write cs c)
    unfolding rank
    falls i j e =
        let q : joined_at cs i ≡ Some j = was i j e in
        let h = joined_inside i j q in
        subst₂ (λ (x y : Content V). rank_of x j < rank_of y i) (sym (content_before cs c j h.1)) (sym (content_before cs c i h.0)) (ok.descends i j q)

    agree : (i j : ℕ) → joined_at (write cs c) i ≡ Some j → Matches (SameRoots (write cs c)) (content_at (write cs c) i) (content_at (write cs c) j)
    agree i j e =
        let q : joined_at cs i ≡ Some j = was i j e in
        let h = joined_inside i j q in
        subst₂ (λ x y. Matches (SameRoots (write cs c)) x y) (sym (content_before cs c i h.0)) (sym (content_before cs c j h.1))
        (matches_on cs (write cs c) (λ k l z. joined_write cs c k ∙ z) ok.descends falls (content_at cs i) (content_at cs j) (ok.agrees i j q))

    node_lower : Writable cs c → (i f : ℕ) (xs : List ℕ) → content_at (write cs c) i ≡ node f xs → (f < 65536) × AllByRecursion (λ x. x < i) xs
    node_lower w i f xs e = go (cases_order i (length cs))
      where
        new : (d : Content V) → Writable cs d → d ≡ node f xs → (f < 65536) × AllByRecursion (λ x. x < length cs) xs
        new d w q = subst (Writable cs) q w

        go : (i ≡ length cs) ⊎ ((i < length cs) ⊎ (length cs < i)) → (f < 65536) × AllByRecursion (λ x. x < i) xs
        go (inl q) = subst (λ n. (f < 65536) × AllByRecursion (λ x. x < n) xs) (sym q)
            (new c w (sym (content_new cs c) ∙ (ap (content_at (write cs c)) (sym q) ∙ e)))
        go (inr (inl h)) = ok.lower i f xs (sym (content_before cs c i h) ∙ e)
        go (inr (inr h)) = absurd (subst IsVariable (sym (content_past (write cs c) i (subst (λ n. n ≤ i) (sym (length_write cs c)) h)) ∙ e) tt)

    pub wrote : length cs < most → Writable cs c → Wrote cs c
    wrote h w = record {
      solved = record {
        few = subst (λ n. n ≤ most) (sym (length_write cs c)) h;
        lower = node_lower w;
        descends = falls;
        agrees = agree;
      };
      states = states_write cs c;
    }

  pub none_solved : Solved {V = V} []
  unfolding content_at joined_at
  none_solved = record {
    few = omega arith;
    lower = λ i f xs e. absurd (subst IsVariable e tt);
    descends = λ i j e. absurd (none_some e);
    agrees = λ i j e. absurd (none_some e);
  }

pub writing : (V : Type 0) → WritingKeepsSolved V
writing V = record { none = none_solved; one_more = λ cs ok h c w. wrote cs ok c h w }
