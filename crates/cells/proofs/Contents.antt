-- What was written into a cell, as the unifier has it and as a sitting has it.
use Rattle.std.proofs.Common.{◌≡◌, ℕ, List, refl}
use Rattle.theory.specs.Equations.{Equation}
use Rattle.theory.specs.Carried as T
use Rattle.unify.specs.Cells.{Content, variable, leaf, node}
use Rattle.unify.specs.Solved.{and_content}
use Rattle.cells.specs.Cells.{content_lying}

module _ {V : Type 0} where
  -- both have the same equations
  pub with_content : (i : ℕ) (c : Content V) (es : List (Equation V ℕ)) → T.and_content i
      (content_lying c) es ≡ and_content i c es
  with_content i variable es = refl
  with_content i (leaf v) es = refl
  with_content i (node f xs) es = refl

  -- what lies there as a node was written as that node
  pub back_again : (c : Content V) (f : ℕ) (xs : List ℕ) → content_lying c ≡ T.node f xs → c ≡ node f xs
  back_again variable f xs e = cc
  back_again (leaf v) f xs e = cc
  back_again (node g ys) f xs e = cc
