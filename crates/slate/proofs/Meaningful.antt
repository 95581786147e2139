-- What a slate states names only its cells in use, and has a reading.
use Rattle.std.proofs.Common.{◌≡◌, ℕ, suc, ◌+◌, ◌<◌, true, List, [], ◌∷◌, length, Some, None, Option, refl, subst, arith}
use Rattle.std.specs.List.{AllByRecursion}
use Rattle.theory.specs.Equations.{Equation}
use Rattle.theory.specs.Known.{Known, Names, Sound}
use Rattle.theory.specs.Carried.{StandsFor}
use Rattle.unify.specs.Cells.{Content, variable, leaf, node, Cell, content_at, joined_at}
use Rattle.unify.specs.Solved.{and_content, and_join, stated_from, stated, Solved}
use Rattle.unify.specs.Unify.{start}
use Rattle.unify.specs.Meaning.{Means}
use Rattle.unify.proofs.Nodes.{node_stated}
use Rattle.unify.proofs.Meant.{meaning}
use Rattle.unify.proofs.Roots.{target_inside}
use Rattle.unify.proofs.Steadiness.{start_steady, arguments_inside}
use Rattle.slate.specs.declared.slate.Slate.{Slate}
use Rattle.slate.specs.Slates.{in_use, on_slate}
use Rattle.slate.proofs.Standing.{stands_for}
use Rattle.slate.proofs.Answering.{as_used}
use Rattle.slate.proofs.Questions.{sound_of}

module _ {V : Type 0} (P : ℕ → Type 0) where
  named_content : (i : ℕ) (d : Content V) (es : List (Equation V ℕ)) → P i → ((f : ℕ) (xs : List ℕ) → d ≡ node f xs →
      AllByRecursion P xs) →
      AllByRecursion (Names P) es → AllByRecursion (Names P) (and_content i d es)
  named_content i variable es p h a = a
  named_content i (leaf v) es p h a = (p, a)
  named_content i (node f xs) es p h a = ((p, h f xs refl), a)

  named_join : (i : ℕ) (o : Option ℕ) (es : List (Equation V ℕ)) → P i → ((j : ℕ) → o ≡ Some j → P j) →
      AllByRecursion (Names P) es → AllByRecursion (Names P) (and_join i o es)
  named_join i None es p h a = a
  named_join i (Some j) es p h a = ((p, h j refl), a)

  -- what the cells state names what they name
  named : (i : ℕ) (cs : List (Cell V)) → ((n : ℕ) → n < length cs → P (i + n)) →
      ((n : ℕ) → n < length cs → (f : ℕ) (xs : List ℕ) → content_at cs n ≡ node f xs → AllByRecursion P xs) →
      ((n : ℕ) → n < length cs → (j : ℕ) → joined_at cs n ≡ Some j → P j) → AllByRecursion (Names P) (stated_from i cs)
  unfolding stated_from content_at joined_at
  named i [] h c j = tt
  named i (d ∷ cs) h c j =
      let here : 0 < length (d ∷ cs) = omega arith in
      let p : P i = subst P (let e : i + 0 ≡ i = omega arith in e) (h 0 here) in
      named_content i d.content _ p (c 0 here)
      (named_join i d.joined _ p (j 0 here)
      (named (suc i) cs
      (λ n k. subst P (let e : i + suc n ≡ suc i + n = omega arith in e) (h (suc n) (omega arith)))
      (λ n k. c (suc n) (omega arith))
      (λ n k. j (suc n) (omega arith))))

module _ {V : Type 0} (cs : List (Cell V)) (ok : Solved cs) where
  own : Means cs (stated cs)
  own = record { readings = λ ρ t. (λ m. m, λ m. m); nodes = λ i f xs e. node_stated f xs cs i e }

  inside : AllByRecursion (Names (λ c. c < length cs)) (stated cs)
  unfolding stated start
  inside = named (λ c. c < length cs) 0 cs (λ n k. omega arith)
      (λ n k f xs e. arguments_inside (λ v w. true) true (start cs) (start_steady cs ok) n f xs e)
      (λ n k j e. target_inside cs ok.descends ok.few n j e k)

-- a slate stands for what its cells state
pub something : {L : Type 0} → IsSet L → (s : Slate L) → (k : Known L) × Sound k × StandsFor (on_slate s) k
something set s =
    let cs = in_use s in
    let ok = (sound_of set s).solved in (
      record { used = s.used; equations = stated cs },
      record {
        in_use = subst (λ n. AllByRecursion (Names (λ c. c < n)) (stated cs)) (as_used s) (inside cs ok);
        solvable = (meaning _).solvable cs (stated cs) ok (own cs ok);
      },
      stands_for cs (record { used = s.used; equations = stated cs }) (as_used s) (own cs ok),
    )
