-- A sitting up to a moment and from it on.
use Rattle.std.proofs.Common.{◌≡◌, ℕ, List, [], ◌∷◌, ◌++◌, sym, refl, ap, ◌∙◌, subst, append_assoc, append-nil}
use Rattle.theory.specs.Equations.{Equation, is_leaf, is_node, equal}
use Rattle.theory.specs.Entries.{Entry}
use Rattle.theory.specs.Calls.{Call, write_open, write_leaf, write_node, equate, compare, solve, check}
use Rattle.theory.specs.Calls.{Answer, wrote, accepted, same, different, grants, fails, passes, refused, Event}
use Rattle.theory.specs.Known.{Known, nothing, written, equated, solved, after, known_from, known}
use Rattle.theory.specs.Answers.{Defined}
use Rattle.theory.specs.Sittings.{RightFrom, Right, At}

module _ {V : Type 0} where
  -- more equations are known
  abbrev pub More : Known V → Known V → Type 0
  More k l = (es : List (Equation V ℕ)) × (l.equations ≡ k.equations ++ es)

  -- none need be new
  no_more : (k : Known V) → More k k
  no_more k = ([], sym (append-nil k.equations))

  -- a call only adds equations
  more_written : (k : Known V) (es : List (Equation V ℕ)) (a : Answer) → More k (written k es a)
  more_written k es (wrote c) = (es, refl)
  more_written k es accepted = no_more k
  more_written k es same = no_more k
  more_written k es different = no_more k
  more_written k es (grants n s) = no_more k
  more_written k es (fails n) = no_more k
  more_written k es passes = no_more k
  more_written k es (refused r) = no_more k

  more_equated : (k : Known V) (x y : ℕ) (a : Answer) → More k (equated k x y a)
  more_equated k x y (wrote c) = no_more k
  more_equated k x y accepted = (equal x y ∷ [], refl)
  more_equated k x y same = no_more k
  more_equated k x y different = no_more k
  more_equated k x y (grants n s) = no_more k
  more_equated k x y (fails n) = no_more k
  more_equated k x y passes = no_more k
  more_equated k x y (refused r) = no_more k

module _ {V : Type 0} (book : List (Entry V)) where
  more_solved : (k : Known V) (goals : List ℕ) (a : Answer) → More k (solved book k goals a)
  more_solved k goals (wrote c) = no_more k
  more_solved k goals accepted = no_more k
  more_solved k goals same = no_more k
  more_solved k goals different = no_more k
  more_solved k goals (grants n s) = (_, refl)
  more_solved k goals (fails n) = no_more k
  more_solved k goals passes = no_more k
  more_solved k goals (refused r) = no_more k

  more_after : (k : Known V) (c : Call V) (a : Answer) → More k (after book k c a)
  more_after k write_open a = more_written k [] a
  more_after k (write_leaf v) a = more_written k (is_leaf k.used v ∷ []) a
  more_after k (write_node f args) a = more_written k (is_node k.used f args ∷ []) a
  more_after k (equate x y w) a = more_equated k x y a
  more_after k (compare x y w) a = no_more k
  more_after k (solve goals b s w f) a = more_solved k goals a
  more_after k (check goals steps w f) a = no_more k

  -- later in a sitting more equations are known
  more_from : (k : Known V) (h : List (Event V)) → More k (known_from book k h)
  more_from k [] = no_more k
  more_from k (e ∷ h) =
      let a : More k (after book k e.call e.answer) = more_after k e.call e.answer in
      let b : More (after book k e.call e.answer) (known_from book k (e ∷ h)) =
      more_from (after book k e.call e.answer) h in
      (a.0 ++ b.0, b.1 ∙ (ap (λ z. z ++ b.0) a.1 ∙ append_assoc k.equations a.0 b.0))

  -- what is known after two parts of a sitting
  known_split : (k : Known V) (a b : List (Event V)) →
      known_from book k (a ++ b) ≡ known_from book (known_from book k a) b
  known_split k [] b = refl
  known_split k (e ∷ a) b = known_split (after book k e.call e.answer) a b

  module _ (supplied : ℕ) where
    -- the first part of a right sitting is right
    right_left : (k : Known V) (a b : List (Event V)) →
        RightFrom book supplied k (a ++ b) → RightFrom book supplied k a
    right_left k [] b r = tt
    right_left k (e ∷ a) b r = (r.0, right_left (after book k e.call e.answer) a b r.1)

    -- and so is the second, from what is known after the first
    right_right : (k : Known V) (a b : List (Event V)) →
        RightFrom book supplied k (a ++ b) → RightFrom book supplied (known_from book k a) b
    right_right k [] b r = r
    right_right k (e ∷ a) b r = right_right (after book k e.call e.answer) a b r.1

    -- a right sitting was right at every moment
    pub right_before : (h now later : List (Event V)) → h ≡ now ++ later → Right book supplied h →
        Right book supplied now
    right_before h now later e r = right_left nothing now later (subst (Right book supplied) e r)

    -- one more event keeps a sitting right when its answer is the defined one
    pub right_push : (k : Known V) (h : List (Event V)) (c : Call V) (a : Answer) → RightFrom book supplied k h →
        Defined book supplied (known_from book k h) c a →
        RightFrom book supplied k (h ++ (record { call = c; answer = a } ∷ []))
    right_push k [] c a r d = (d, tt)
    right_push k (e ∷ h) c a r d = (r.0, right_push (after book k e.call e.answer) h c a r.1 d)

    -- the moment of a call
    module _ (h : List (Event V)) (right : Right book supplied h) (before : List (Event V)) (c : Call V)
        (a : Answer)
        (at : At h before c a) where
      abbrev from_here : List (Event V)
      from_here = record { call = c; answer = a } ∷ at.0

      pub right_then : Right book supplied before
      right_then = right_before h before from_here at.1 right

      -- its answer is the defined one
      pub defined_then : Defined book supplied (known book before) c a
      defined_then = (right_right nothing before from_here (subst (Right book supplied) at.1 right)).0

      -- more is known now than after it
      pub more_now : More (after book (known book before) c a) (known book h)
      more_now =
          let k : Known V = after book (known book before) c a in
          let w : More k (known_from book k at.0) = more_from k at.0 in
          (w.0, ap (λ q. q.equations) (ap (known book) at.1 ∙ known_split nothing before from_here) ∙ w.1)
