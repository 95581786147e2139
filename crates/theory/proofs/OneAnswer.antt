-- A call has at most one defined answer.
use Rattle.std.proofs.Common.{◌≡◌, ℕ, suc, ◌<◌, List, [], ◌∷◌, Some, None, Option, sym, ap, ◌∙◌, subst, inl, inr}
use Rattle.theory.specs.Equations.{Equation, Solvable}
use Rattle.theory.specs.Entries.{Entry}
use Rattle.theory.specs.Records.{Step, Goal, Replay, Replayed, broken, went, start, step, together}
use Rattle.theory.specs.Check.{If, Verdict, unlawful, no_cells, CheckFrom, AtEnd}
use Rattle.theory.specs.Calls.{Call, write_open, write_leaf, write_node, equate, compare, solve, check}
use Rattle.theory.specs.Calls.{Answer, refused, not_in_use, not_an_atom}
use Rattle.theory.specs.Known.{Known}
use Rattle.theory.specs.Answers.{first_unused, FirstNonAtom, answer_of, answer_to, UsedOr, AtomsOr, NextCell}
use Rattle.theory.specs.Answers.{Defined}
use Rattle.theory.proofs.OneOutcome.{one_outcome}

-- both sides take the same way, and each way has one answer
module _ {X : Type 0} {P A B : Type 0} {a b x : X} where
  -- where the statement holds there is one answer
  one_first : If P (a ≡ x) A → If P (b ≡ x) B → (A → B → a ≡ b) → a ≡ b
  one_first (inl (p, e)) (inl (q, f)) k = e ∙ sym f
  one_first (inl (p, e)) (inr (q, f)) k = absurd (q p)
  one_first (inr (p, e)) (inl (q, f)) k = absurd (p q)
  one_first (inr (p, e)) (inr (q, f)) k = k e f

  -- where it does not hold there is one answer
  one_second : If P A (a ≡ x) → If P B (b ≡ x) → (A → B → a ≡ b) → a ≡ b
  one_second (inl (p, e)) (inl (q, f)) k = k e f
  one_second (inl (p, e)) (inr (q, f)) k = absurd (q p)
  one_second (inr (p, e)) (inl (q, f)) k = absurd (p q)
  one_second (inr (p, e)) (inr (q, f)) k = e ∙ sym f

-- there is at most one first goal that is no atom
one_non_atom : {V : Type 0} (es : List (Equation V ℕ)) (gs : List ℕ) (o o' : Option ℕ) →
    FirstNonAtom es gs o → FirstNonAtom es gs o' → o ≡ o'
one_non_atom es [] o o' e f = e ∙ sym f
one_non_atom es (g ∷ gs) o o' e f = one_second e f (one_non_atom es gs o o')

module _ {V : Type 0} (book : List (Entry V)) (known : List (Equation V ℕ)) (free : ℕ) where
  -- check comes to at most one verdict
  one_verdict : (xs : List Step) (r : Replay V) (i : ℕ) (v w : Verdict) →
      CheckFrom book known free r i xs v → CheckFrom book known free r i xs w → v ≡ w
  one_verdict [] r i v w g h = go r.pending g h
    where
      go : (l : List Goal) → AtEnd l i v → AtEnd l i w → v ≡ w
      go [] e f = e ∙ sym f
      go (x ∷ l) e f = e ∙ sym f
  one_verdict (x ∷ xs) r i v w g h = go (step book r x) g h (λ m. one_verdict xs m (suc i) v w)
    where
      At : Verdict → Replayed V → Type 0
      At u = elim [
        | broken rule ↦ u ≡ unlawful i rule
        | went m ↦
            If (free < m.cells) (u ≡ no_cells)
            (If (Solvable (together known m)) (CheckFrom book known free m (suc i) xs u) (u ≡ unlawful i 7))
      ]

      go : (o : Replayed V) → At v o → At w o →
          ((m : Replay V) → CheckFrom book known free m (suc i) xs v →
          CheckFrom book known free m (suc i) xs w → v ≡ w) →
          v ≡ w
      go (broken rule) e f rec = e ∙ sym f
      go (went m) e f rec = one_first e f (λ p q. one_second p q (rec m))

module _ {V : Type 0} (k : Known V) where
  -- the same cell is refused, or none
  one_used : (cs : List ℕ) (a b : Answer) (A B : Type 0) → UsedOr k cs a A → UsedOr k cs b B →
      (A → B → a ≡ b) → a ≡ b
  one_used cs a b A B p q r = go (first_unused k.used cs) p q
    where
      At : Answer → Type 0 → Option ℕ → Type 0
      At x X = elim [ Some c ↦ x ≡ refused (not_in_use c) | None ↦ X ]

      go : (o : Option ℕ) → At a A o → At b B o → a ≡ b
      go None e f = r e f
      go (Some c) e f = e ∙ sym f

  -- the same goal is refused, or none
  one_atoms : (goals : List ℕ) (a b : Answer) (A B : Type 0) → AtomsOr k goals a A → AtomsOr k goals b B →
      (A → B → a ≡ b) → a ≡ b
  one_atoms goals a b A B (o, f, p) (o', f', q) r =
      go o p (subst (At b B) (sym (one_non_atom k.equations goals o o' f f')) q)
    where
      At : Answer → Type 0 → Option ℕ → Type 0
      At x X = elim [ Some c ↦ x ≡ refused (not_an_atom c) | None ↦ X ]

      go : (o : Option ℕ) → At a A o → At b B o → a ≡ b
      go None e f = r e f
      go (Some c) e f = e ∙ sym f

  -- a write has one answer
  one_cell : (supplied : ℕ) (a b : Answer) → NextCell supplied k a → NextCell supplied k b → a ≡ b
  one_cell supplied a b p q = one_first p q (λ e f. e ∙ sym f)

  -- a call has at most one defined answer
  pub one_answer : (book : List (Entry V)) (supplied : ℕ) (c : Call V) (a b : Answer) →
      Defined book supplied k c a → Defined book supplied k c b → a ≡ b
  one_answer book n write_open a b p q = one_cell n a b p q
  one_answer book n (write_leaf v) a b p q = one_cell n a b p q
  one_answer book n (write_node f args) a b (hf, p) (hg, q) =
      one_first p q (λ p q. one_used args a b _ _ p q (one_cell n a b))
  one_answer book n (equate x y w) a b p q =
      one_used (x ∷ y ∷ []) a b _ _ p q (λ p q. one_first p q (λ p q. one_first p q (λ e f. e ∙ sym f)))
  one_answer book n (compare x y w) a b p q =
      one_used (x ∷ y ∷ []) a b _ _ p q (λ p q. one_first p q (λ p q. one_first p q (λ e f. e ∙ sym f)))
  one_answer book n (solve goals m s w f) a b p q =
      one_first p q (λ p q. one_used goals a b _ _ p q (λ p q. one_atoms goals a b _ _ p q (λ p q.
      one_first p q (λ p q.
      p.2
      ∙ (ap answer_of (one_outcome book k.equations _ goals p.0 q.0 p.1 q.1) ∙ sym q.2)))))
  one_answer book n (check goals steps w f) a b p q =
      one_first p q (λ p q. one_used goals a b _ _ p q (λ p q. one_atoms goals a b _ _ p q (λ p q.
      one_first p q (λ p q.
      p.2
      ∙ (ap answer_to (one_verdict book k.equations _ steps (start goals) 0 p.0 q.0 p.1 q.1)
      ∙ sym q.2)))))
