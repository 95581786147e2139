-- What a replay keeps as it goes on.
use Rattle.std.proofs.Common.{◌≡◌, ℕ, ◌≤◌, List, [], ◌∷◌, ◌++◌, map, sym, refl, ap, ◌∙◌, subst, append_assoc, append-nil, arith}
use Rattle.std.proofs.lemmas.List.{map-append}
use Rattle.theory.specs.Trees.{Tree, IsTree}
use Rattle.theory.specs.Equations.{Equation, rename, Solvable, MeetsAll}
use Rattle.theory.specs.Entries.{Entry}
use Rattle.theory.specs.Records.{Step, Term, cell, part, Replay, Replayed, broken, went, start, step, Leads}
use Rattle.theory.specs.Records.{replay_from, together}
use Rattle.theory.proofs.Readings.{meets_left, meets_right, meets_both, meets_renamed}
use Rattle.theory.proofs.Steps.{Took, clause_step, loop_step, entry_step, took, not_broken, went_inj}

-- the later replay has the equations of the earlier and more
abbrev pub Grown : {V : Type 0} → Replay V → Replay V → Type 0
Grown {V} r m = (es : List (Equation V Term)) × (m.equations ≡ r.equations ++ es)

module _ {V : Type 0} (book : List (Entry V)) where
  -- so for one step
  step_grows : (r : Replay V) (x : Step) (m : Replay V) → Took book r x m → Grown r m
  step_grows r x m (clause_step g rest n e p i f c) = (_, refl)
  step_grows r x m (loop_step g rest n p i f) = (_, refl)
  step_grows r x m (entry_step g rest n e p i f) = (_, refl)

  -- steps only add equations
  pub grows : (r : Replay V) (xs : List Step) (t : Replay V) → Leads book r xs t → Grown r t
  grows r [] t l = ([], sym (ap (λ q. q.equations) l) ∙ sym (append-nil r.equations))
  grows r (x ∷ xs) t (m, s, l) =
      let a : Grown r m = step_grows r x m (took book r x m s) in
      let b : Grown m t = grows m xs t l in
      (a.0 ++ b.0, b.1 ∙ (ap (λ q. q ++ b.0) a.1 ∙ append_assoc r.equations a.0 b.0))

  -- a step only adds cells
  step_cells : (r : Replay V) (x : Step) (m : Replay V) → Took book r x m → r.cells ≤ m.cells
  step_cells r x m (clause_step g rest n e p i f c) = omega arith
  step_cells r x m (loop_step g rest n p i f) = omega arith
  step_cells r x m (entry_step g rest n e p i f) = omega arith

  -- and cells
  pub cells_grow : (r : Replay V) (xs : List Step) (t : Replay V) → Leads book r xs t → r.cells ≤ t.cells
  cells_grow r [] t l = subst (λ q. r.cells ≤ q.cells) l (omega arith)
  cells_grow r (x ∷ xs) t (m, s, l) =
      let a : r.cells ≤ m.cells = step_cells r x m (took book r x m s) in
      let b : m.cells ≤ t.cells = cells_grow m xs t l in
      omega arith

  -- one more step at the end
  pub leads_push : (r : Replay V) (xs : List Step) (t : Replay V) (x : Step) (m : Replay V) →
      Leads book r xs t → step book t x ≡ went m → Leads book r (xs ++ (x ∷ [])) m
  leads_push r [] t x m l s = (m, ap (λ q. step book q x) l ∙ s, refl)
  leads_push r (y ∷ xs) t x m (q, p, l) s = (q, p, leads_push q xs t x m l s)

  -- a replay that breaks no rule is the one that the steps lead to
  pub leads_replay : (r : Replay V) (xs : List Step) (t : Replay V) → Leads book r xs t → replay_from book r xs ≡ t
  leads_replay r [] t l = l
  leads_replay r (x ∷ xs) t (m, s, l) = go (step book r x) s (leads_replay m xs t l)
    where
      go : (o : Replayed V) → o ≡ went m → replay_from book m xs ≡ t →
          Path (Replay V) (elim o [ broken rule ↦ r | went n ↦ replay_from book n xs ]) t
      go (broken k) e rest = absurd (not_broken e)
      go (went n) e rest = ap (λ q. replay_from book q xs) (went_inj e) ∙ rest

-- the steps lead to the end of a record that is lawful by the equations
abbrev pub Finishes : {V : Type 0} → List (Entry V) → List (Equation V ℕ) → Replay V → List Step → Type 0
Finishes {V} book es r xs = (t : Replay V) × Leads book r xs t × (t.pending ≡ []) × Solvable (together es t)

module _ {V : Type 0} where
  -- a reading of more knowledge and a later replay is one of less knowledge and an earlier replay
  pub earlier : (known more : List (Equation V ℕ)) (r t : Replay V) → Grown r t →
      Solvable (together (known ++ more) t) → Solvable (together known r)
  earlier known more r t g s =
      ∥∥₁_rec squash₁ (λ z. ∣ (z.0, record { trees = z.1.trees; meets = both z.0 z.1.meets }) ∣₁) s
    where
      both : (ρ : Term → Tree V) → MeetsAll ρ (together (known ++ more) t) → MeetsAll ρ (together known r)
      both ρ m =
          let these : MeetsAll ρ (map (rename cell) (known ++ more)) =
          meets_left ρ (map (rename cell) (known ++ more)) t.equations m in
          let those : MeetsAll ρ t.equations =
          meets_right ρ (map (rename cell) (known ++ more)) t.equations m in
          meets_both ρ (map (rename cell) known) r.equations
          (meets_left ρ (map (rename cell) known) (map (rename cell) more)
          (subst (MeetsAll ρ) (map-append (rename cell) known more) these))
          (meets_left ρ r.equations g.0 (subst (MeetsAll ρ) g.1 those))

  -- so also with the same knowledge
  pub earlier_same : (known : List (Equation V ℕ)) (r t : Replay V) → Grown r t →
      Solvable (together known t) → Solvable (together known r)
  earlier_same known r t g s =
      earlier known [] r t g (subst (λ k. Solvable (together k t)) (sym (append-nil known)) s)

  -- where the slate has a reading, the replay that has yet to take a step has one
  pub started : (known : List (Equation V ℕ)) (goals : List ℕ) →
      Solvable known → Solvable (together known (start {V = V} goals))
  started known goals s =
      ∥∥₁_rec squash₁ (λ z. ∣ (
        over z.0,
        record {
          trees = is_tree z.0 z.1.trees;
          meets = meets z.0 z.1.meets;
        },
      ) ∣₁) s
    where
      over : (ℕ → Tree V) → Term → Tree V
      over ρ (cell c) = ρ c
      over ρ (part s j) = ρ 0

      is_tree : (ρ : ℕ → Tree V) → ((c : ℕ) → IsTree (ρ c)) → (t : Term) → IsTree (over ρ t)
      is_tree ρ h (cell c) = h c
      is_tree ρ h (part s j) = h 0

      meets : (ρ : ℕ → Tree V) → MeetsAll ρ known → MeetsAll (over ρ) (together known (start {V = V} goals))
      meets ρ m = meets_both (over ρ) (map (rename cell) known) [] (meets_renamed cell (over ρ) known m) tt
