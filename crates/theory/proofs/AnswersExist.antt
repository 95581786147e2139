-- Where the questions about equations are decided, every call has a defined answer.
use Rattle.std.proofs.Common.{◌≡◌, ℕ, ◌-◌, ◌*◌, ◌<◌, ◌≤◌, ◌⊎◌, List, [], ◌∷◌, ◌++◌, length, Some, None, Option, refl, inl, inr, arith}
use Rattle.std.proofs.lemmas.Bool.{cases_lt}
use Rattle.theory.specs.Equations.{Equation, equal, IsAtom}
use Rattle.theory.specs.Entries.{Entry}
use Rattle.theory.specs.Records.{Step, start}
use Rattle.theory.specs.Search.{Outcome, Solve}
use Rattle.theory.specs.Check.{If, Verdict, Check}
use Rattle.theory.specs.Calls.{Call, write_open, write_leaf, write_node, equate, compare, solve, check}
use Rattle.theory.specs.Calls.{not_in_use, too_many_arguments, not_an_atom, too_long, too_short, no_cell, clash}
use Rattle.theory.specs.Calls.{Answer, wrote, accepted, same, different, refused}
use Rattle.theory.specs.Known.{Known}
use Rattle.theory.specs.Answers.{capacity, served, first_unused, FirstNonAtom, answer_of, answer_to, UsedOr}
use Rattle.theory.specs.Answers.{AtomsOr, NextCell, limits, Defined, Decided, Decisions, Symbols}
use Rattle.theory.proofs.SearchesEnd.{search_ends, check_ends}

-- some answer is as the statement says
abbrev SomeAnswer : (Answer → Type 0) → Type 0
SomeAnswer P = (a : Answer) × P a

-- one number is below another or is not
below : (a b : ℕ) → Decided (a < b)
below a b = go (cases_lt a b)
  where
    no : b ≤ a → a < b → ⊥
    no h q = omega arith

    go : (a < b) ⊎ (b ≤ a) → Decided (a < b)
    go (inl h) = inl h
    go (inr h) = inr (no h)

-- one of two decided statements holds or none does
either : {P Q : Type 0} → Decided P → Decided Q → Decided (P ⊎ Q)
either (inl p) q = inl (inl p)
either (inr p) (inl q) = inl (inr q)
either {P} {Q} (inr p) (inr q) = inr no
  where
    no : P ⊎ Q → ⊥
    no (inl x) = p x
    no (inr y) = q y

-- one answer where a statement holds, and another where it does not
one_or : {P : Type 0} (x : Answer) (Q : Answer → Type 0) → Decided P → SomeAnswer Q →
    SomeAnswer (λ a. If P (a ≡ x) (Q a))
one_or x Q (inl p) w = (x, inl (p, refl))
one_or x Q (inr n) w = (w.0, inr (n, w.1))

-- one answer or another
this_or_that : {P : Type 0} (x y : Answer) → Decided P → SomeAnswer (λ a. If P (a ≡ x) (a ≡ y))
this_or_that x y d = one_or x (λ a. a ≡ y) d (y, refl)

-- the first goal that is no atom can be found
non_atom : {V : Type 0} → Decisions V → (es : List (Equation V ℕ)) (gs : List ℕ) →
    (o : Option ℕ) × FirstNonAtom es gs o
non_atom d es [] = (None, refl)
non_atom d es (g ∷ gs) = go (d.atom es g) (non_atom d es gs)
  where
    go : Decided (IsAtom es g) → ((o : Option ℕ) × FirstNonAtom es gs o) →
        (o : Option ℕ) × FirstNonAtom es (g ∷ gs) o
    go (inl p) w = (w.0, inl (p, w.1))
    go (inr n) w = (Some g, inr (n, refl))

module _ {V : Type 0} (d : Decisions V) (k : Known V) where
  -- the first unused cell is refused, or some answer is as it should be
  used_or : (cs : List ℕ) (Q : Answer → Type 0) → SomeAnswer Q → SomeAnswer (λ a. UsedOr k cs a (Q a))
  used_or cs Q w = go (first_unused k.used cs)
    where
      At : Answer → Option ℕ → Type 0
      At a = elim [ Some c ↦ a ≡ refused (not_in_use c) | None ↦ Q a ]

      go : (o : Option ℕ) → SomeAnswer (λ a. At a o)
      go None = w
      go (Some c) = (refused (not_in_use c), refl)

  -- so is the first goal that is no atom
  atoms_or : (gs : List ℕ) (Q : Answer → Type 0) → SomeAnswer Q → SomeAnswer (λ a. AtomsOr k gs a (Q a))
  atoms_or gs Q w = go (non_atom d k.equations gs)
    where
      go : ((o : Option ℕ) × FirstNonAtom k.equations gs o) → SomeAnswer (λ a. AtomsOr k gs a (Q a))
      go (None, f) = (w.0, (None, f, w.1))
      go (Some c, f) = (refused (not_an_atom c), (Some c, f, refl))

  -- a write has an answer
  next_cell : (supplied : ℕ) → SomeAnswer (NextCell supplied k)
  next_cell supplied = this_or_that (wrote k.used) (refused no_cell) (below k.used (capacity supplied))

  module _ (book : List (Entry V)) (supplied : ℕ) where
    -- a search has an answer
    searched : (goals : List ℕ) (b s : ℕ) →
        SomeAnswer (λ a. (o : Outcome) × Solve book k.equations (limits supplied k b s) goals o ×
        (a ≡ answer_of o))
    searched goals b s =
        let w : (o : Outcome) × Solve book k.equations (limits supplied k b s) goals o =
        search_ends d.of_terms book k.equations (limits supplied k b s) goals in
        (answer_of w.0, (w.0, w.1, refl))

    -- and so has a check
    checked : (goals : List ℕ) (steps : List Step) → SomeAnswer (λ a.
        (v : Verdict) × Check book k.equations (capacity supplied - k.used) goals steps v × (a ≡ answer_to v))
    checked goals steps =
        let w : (v : Verdict) × Check book k.equations (capacity supplied - k.used) goals steps v =
        check_ends d.of_terms book k.equations (capacity supplied - k.used) steps (start goals) 0 in
        (answer_to w.0, (w.0, w.1, refl))

    -- every call has a defined answer
    pub answered : (c : Call V) → Symbols c → SomeAnswer (Defined book supplied k c)
    answered write_open s = next_cell supplied
    answered (write_leaf v) s = next_cell supplied
    answered (write_node f args) s =
        let w = one_or (refused too_many_arguments) (λ a. UsedOr k args a (NextCell supplied k a))
        (below 4 (length args))
        (used_or args (NextCell supplied k) (next_cell supplied)) in
        (w.0, (s, w.1))
    answered (equate x y work) s =
        used_or (x ∷ y ∷ []) _
        (one_or (refused too_short) _ (below work (9 * capacity supplied))
        (this_or_that accepted (refused clash) (d.of_cells (k.equations ++ (equal x y ∷ [])))))
    answered (compare x y work) s =
        used_or (x ∷ y ∷ []) _
        (one_or (refused too_short) _ (below work (9 * capacity supplied))
        (this_or_that same different (d.entailed k.equations x y)))
    answered (solve goals b steps work frames) s =
        one_or (refused too_long) _ (below 8 (length goals))
        (used_or goals _ (atoms_or goals _
        (one_or (refused too_short) _ (either (below work (9 * capacity supplied)) (below frames (served steps)))
        (searched goals b steps))))
    answered (check goals steps work frames) s =
        one_or (refused too_long) _ (either (below 8 (length goals)) (below 4096 (length steps)))
        (used_or goals _ (atoms_or goals _
        (one_or (refused too_short) _ (either (below work (9 * capacity supplied)) (below frames (length steps)))
        (checked goals steps))))
