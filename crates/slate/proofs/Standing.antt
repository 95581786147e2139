-- What cells stand for in a sitting, by what they mean to the unifier.
use Rattle.std.proofs.Common.{◌≡◌, ℕ, zero, suc, ◌↔◌, List, [], ◌∷◌, ◌++◌, map, length, Some, None, Option, sym, refl, ap, ◌∙◌, subst}
use lib.ListN.{length-map}
use Rattle.std.specs.List.{slice_get}
use Rattle.theory.specs.Equations.{Equation, MeetsAll}
use Rattle.theory.specs.Known.{Known}
use Rattle.theory.specs.Carried.{Content, node, Cell, states, StandsFor}
use Rattle.theory.specs.Carried as T
use Rattle.unify.specs.Cells.{content_at}
use Rattle.unify.specs.Cells as C
use Rattle.unify.specs.Solved.{and_content, and_join, stated_from, stated}
use Rattle.unify.specs.Writing.{write}
use Rattle.unify.specs.Meaning.{Means}
use Rattle.unify.proofs.Roots.{IsVariable}
use Rattle.unify.proofs.Places.{none_some}
use Rattle.unify.proofs.Written.{length_write}
use Rattle.unify.proofs.Meant.{meaning}
use Rattle.cells.specs.Cells.{content_lying, lying}
use Rattle.cells.proofs.Contents.{with_content, back_again}

module _ {V : Type 0} where
  with_join : (i : ℕ) (j : Option ℕ) (es : List (Equation V ℕ)) → T.and_join i j es ≡ and_join i j es
  with_join i None es = refl
  with_join i (Some j) es = refl

  -- what the cells say in a sitting is what they state
  said : (i : ℕ) (cs : List (C.Cell V)) → states i (map lying cs) ≡ stated_from i cs
  unfolding stated_from
  said i [] = refl
  said i (c ∷ cs) =
      with_content i c.content _
      ∙ ap (and_content i c.content) (with_join i c.joined _ ∙ ap (and_join i c.joined) (said (suc i) cs))

  said_all : (cs : List (C.Cell V)) → states 0 (map lying cs) ≡ stated cs
  unfolding stated
  said_all cs = said 0 cs

  -- a node that was written lies there
  lies : (cs : List (C.Cell V)) (i f : ℕ) (xs : List ℕ) → content_at cs i ≡ C.node f xs →
      (c : Cell V) × (slice_get (map lying cs) i ≡ Some c) × (c.content ≡ node f xs)
  unfolding content_at
  lies [] i f xs e = absurd (subst IsVariable e tt)
  lies (c ∷ cs) zero f xs e = (lying c, refl, ap content_lying e)
  lies (c ∷ cs) (suc i) f xs e = lies cs i f xs e

  -- a node that lies there was written
  was_written : (cs : List (C.Cell V)) (i f : ℕ) (xs : List ℕ) (c : Cell V) → slice_get (map lying cs) i ≡ Some c →
      c.content ≡ node f xs → content_at cs i ≡ C.node f xs
  unfolding content_at
  was_written [] i f xs c e p = absurd (none_some e)
  was_written (d ∷ cs) zero f xs c e p = back_again d.content f xs (let q : lying d ≡ c = cc in ap
      (λ x. x.content) q ∙ p)
  was_written (d ∷ cs) (suc i) f xs c e p = was_written cs i f xs c e p

  module _ (cs : List (C.Cell V)) (k : Known V) where
    pub means_known : StandsFor (map lying cs) k → Means cs k.equations
    means_known s = record {
      readings = λ ρ t. subst (λ es. MeetsAll ρ es ↔ MeetsAll ρ k.equations) (said_all cs) (s.readings ρ t);
      nodes = λ i f xs e. let z = lies cs i f xs e in s.nodes i z.0 f xs z.1 z.2;
    }

    pub number_known : StandsFor (map lying cs) k → length cs ≡ k.used
    number_known s = sym (length-map cs lying) ∙ s.used

    pub stands_for : length cs ≡ k.used → Means cs k.equations → StandsFor (map lying cs) k
    stands_for n m = record {
      used = length-map cs lying ∙ n;
      readings = λ ρ t. subst (λ es. MeetsAll ρ es ↔ MeetsAll ρ k.equations) (sym (said_all cs)) (m.readings ρ t);
      nodes = λ i c f xs e p. m.nodes i f xs (was_written cs i f xs c e p);
    }

  -- one more cell, and what was written into it
  pub stands_written : (cs : List (C.Cell V)) (k : Known V) (c : C.Content V) → StandsFor (map lying cs) k →
      StandsFor (map lying (write cs c)) (record {
        used = suc k.used;
        equations = k.equations ++ and_content
            k.used c [];
      })
  stands_written cs k c s =
      stands_for (write cs c) (record {
        used = suc k.used;
        equations = k.equations ++ and_content
            k.used c [];
      })
      (length_write cs c ∙ ap suc (number_known cs k s))
      (subst (λ n. Means (write cs c) (k.equations ++ and_content n c [])) (number_known cs k s)
      ((meaning V).written cs k.equations (means_known cs k s) c))
