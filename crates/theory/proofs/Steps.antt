-- A step that breaks no rule is of one of three forms.
use Rattle.std.proofs.Common.{◌≡◌, ℕ, zero, suc, Bool, true, false, List, [], ◌∷◌, Some, None, Option, sym, refl, ap, ◌∙◌, subst}
use Rattle.std.specs.List.{slice_get}
use Rattle.theory.specs.Entries.{Entry, Kind, clause, cofact}
use Rattle.theory.specs.Records.{Step, step_of, Goal, Replay, Replayed, broken, went, step, expand, close, member}
use Rattle.theory.specs.Records.{take_step, by_mode, by_clause, by_path, by_entry}

-- an outer goal with a clause, an outer goal with a step on its path, and an inner goal with any entry
pub data Took {V : Type 0} (book : List (Entry V)) (r : Replay V) : Step → Replay V → Type 0 where
  clause_step : (g : Goal) (rest : List Goal) (n : ℕ) (e : Entry V) →
      r.pending ≡ g ∷ rest →
      g.inner ≡ false →
      slice_get book n ≡ Some e →
      e.kind ≡ clause →
      Took book r (step_of 1 n) (expand r g rest e)
  loop_step : (g : Goal) (rest : List Goal) (n : ℕ) →
      r.pending ≡ g ∷ rest →
      g.inner ≡ false →
      member n g.path ≡ true →
      Took book r (step_of 2 n) (close r g rest n)
  entry_step : (g : Goal) (rest : List Goal) (n : ℕ) (e : Entry V) →
      r.pending ≡ g ∷ rest →
      g.inner ≡ true →
      slice_get book n ≡ Some e →
      Took book r (step_of 3 n) (expand r g rest e)

module _ {V : Type 0} where
  -- the step goes on
  abbrev IsWent : Replayed V → Type 0
  IsWent (broken n) = ⊥
  IsWent (went r) = Unit {0}

  -- a step does not both break a rule and go on
  pub not_broken : {n : ℕ} {m : Replay V} → Path (Replayed V) (broken n) (went m) → ⊥
  not_broken e = subst IsWent (sym e) tt

  -- the replay after the step, or a default
  abbrev the : Replay V → Replayed V → Replay V
  the d (broken n) = d
  the d (went r) = r

  -- a step goes on to one replay
  pub went_inj : {r m : Replay V} → Path (Replayed V) (went r) (went m) → r ≡ m
  went_inj {r} e = ap (the r) e

module _ {V : Type 0} (book : List (Entry V)) where
  module _ (r : Replay V) (g : Goal) (rest : List Goal) (p : r.pending ≡ g ∷ rest) where
    -- what mode 1 comes to, by the kind of the entry that it names
    abbrev by_kind : Entry V → Kind → Replayed V
    by_kind e k = elim k [ clause ↦ went (expand r g rest e) | cofact ↦ broken 3 ]

    -- mode 1, once an entry is found
    clause_case : (n : ℕ) (e : Entry V) (k : Kind) → slice_get book n ≡ Some e → e.kind ≡ k → g.inner ≡ false →
        (m : Replay V) → by_kind e k ≡ went m → Took book r (step_of 1 n) m
    clause_case n e clause f c i m q =
        subst (Took book r (step_of 1 n)) (went_inj q) (clause_step g rest n e p i f c)
    clause_case n e cofact f c i m q = absurd (not_broken q)

    -- mode 1
    mode_1 : (n : ℕ) (b : Bool) (o : Option (Entry V)) → g.inner ≡ b → slice_get book n ≡ o →
        (m : Replay V) → by_clause r g rest b o ≡ went m → Took book r (step_of 1 n) m
    mode_1 n true o i f m q = absurd (not_broken q)
    mode_1 n false None i f m q = absurd (not_broken q)
    mode_1 n false (Some e) i f m q = clause_case n e e.kind f refl i m q

    -- mode 2
    mode_2 : (n : ℕ) (b : Bool) (o : Bool) → g.inner ≡ b → member n g.path ≡ o →
        (m : Replay V) → by_path r g rest b n o ≡ went m → Took book r (step_of 2 n) m
    mode_2 n true o i f m q = absurd (not_broken q)
    mode_2 n false false i f m q = absurd (not_broken q)
    mode_2 n false true i f m q = subst (Took book r (step_of 2 n)) (went_inj q) (loop_step g rest n p i f)

    -- mode 3
    mode_3 : (n : ℕ) (b : Bool) (o : Option (Entry V)) → g.inner ≡ b → slice_get book n ≡ o →
        (m : Replay V) → by_entry r g rest b o ≡ went m → Took book r (step_of 3 n) m
    mode_3 n false o i f m q = absurd (not_broken q)
    mode_3 n true None i f m q = absurd (not_broken q)
    mode_3 n true (Some e) i f m q = subst (Took book r (step_of 3 n)) (went_inj q) (entry_step g rest n e p i f)

    -- any mode
    modes : (k n : ℕ) (m : Replay V) → by_mode book r g rest k n ≡ went m → Took book r (step_of k n) m
    modes zero n m q = absurd (not_broken q)
    modes (suc zero) n m q = mode_1 n g.inner (slice_get book n) refl refl m q
    modes (suc (suc zero)) n m q = mode_2 n g.inner (member n g.path) refl refl m q
    modes (suc (suc (suc zero))) n m q = mode_3 n g.inner (slice_get book n) refl refl m q
    modes (suc (suc (suc (suc k)))) n m q = absurd (not_broken q)

  -- with any goals pending
  goals : (r : Replay V) (x : Step) (l : List Goal) → r.pending ≡ l → (m : Replay V) →
      take_step book r x l ≡ went m → Took book r x m
  goals r x [] p m q = absurd (not_broken q)
  goals r x (g ∷ rest) p m q = modes r g rest p x.mode x.number m q

  -- a step that goes on is of one of the three forms
  pub took : (r : Replay V) (x : Step) (m : Replay V) → step book r x ≡ went m → Took book r x m
  took r x m q = goals r x r.pending refl m q

  -- and each of the three goes on
  pub goes : (r : Replay V) (x : Step) (m : Replay V) → Took book r x m → step book r x ≡ went m
  goes r x m (clause_step g rest n e p i f c) =
      ap (take_step book r (step_of 1 n)) p
      ∙ (ap (λ b. by_clause r g rest b (slice_get book n)) i
      ∙ (ap (by_clause r g rest false) f ∙ ap (by_kind r g rest p e) c))
  goes r x m (loop_step g rest n p i f) =
      ap (take_step book r (step_of 2 n)) p
      ∙ (ap (λ b. by_path r g rest b n (member n g.path)) i ∙ ap (by_path r g rest false n) f)
  goes r x m (entry_step g rest n e p i f) =
      ap (take_step book r (step_of 3 n)) p
      ∙ (ap (λ b. by_entry r g rest b (slice_get book n)) i ∙ ap (by_entry r g rest true) f)
