-- The answers of the calls on a slate are the defined ones.
use Rattle.std.proofs.Common.{◌≡◌, ℕ, suc, ◌*◌, ◌<◌, ◌≤◌, Bool, true, false, List, [], ◌∷◌, ◌++◌, map, length, take, Some, None, Ok, Err, vec_items, Option, Result, sym, refl, ap, ◌∙◌, subst, inl, inr, arith, length-take}
use lib.ListN.{length-map}
use Rattle.std.specs.List.{AllByRecursion}
use Rattle.theory.specs.Equations.{equal}
use Rattle.theory.specs.Entries.{Entry}
use Rattle.theory.specs.Calls.{Call, write_open, write_leaf, write_node, equate, compare}
use Rattle.theory.specs.Calls.{Answer, wrote, accepted, same, different, refused}
use Rattle.theory.specs.Calls.{not_in_use, too_many_arguments, too_short, clash}
use Rattle.theory.specs.Known.{Known, written}
use Rattle.theory.specs.Answers.{capacity, first_unused, UsedOr, NextCell}
use Rattle.theory.specs.Carried.{StandsFor, RightCall}
use Rattle.theory.proofs.CarriedSittings.{carries}
use Rattle.unify.specs.Cells as C
use Rattle.unify.specs.Cells.{variable, leaf, node}
use Rattle.unify.specs.Solved.{and_content}
use Rattle.slate.specs.declared.refusal.Refusal.{Refusal}
use Rattle.slate.specs.declared.slate.Slate.{Slate}
use Rattle.cells.specs.Cells.{cell_of, lying}
use Rattle.cells.specs.Loops.{Given, Did, Told}
use Rattle.slate.specs.Refusals.{refusal_of}
use Rattle.slate.specs.Slates.{supplied, in_use, on_slate, Refuses, Kept, CarriesOn, wrote_or, same_or, Written, Admits}
use Rattle.slate.proofs.Unused.{all_used}
use Rattle.slate.proofs.Next.{sound_out}
use Rattle.slate.proofs.Standing.{means_known, number_known, stands_for, stands_written}

module _ {L : Type 0} where
  -- a call that is right over every book carries sittings on over every book
  pub carries_on : {old new : Slate L} {c : Call L} {a : Answer} → Kept old new c a → CarriesOn old new c a
  carries_on {old} {new} {c} {a} k = record {
    over = λ book rules. carries book rules (supplied old) (on_slate old) (on_slate new) c a (k.right book);
  }

  -- what a call that is right over every book keeps
  pub kept : {old new : Slate L} {c : Call L} {a : Answer} →
      ((book : List (Entry L)) → RightCall book (supplied old) (on_slate old) c a (on_slate new)) →
      supplied new ≡ supplied old → (Refuses a → in_use new ≡ in_use old) → Kept old new c a
  kept {old} {new} {c} {a} r m u = record {
    right = r;
    as_many = m;
    unaltered = u;
  }

  -- as many cells lie on the slate as are in use
  pub as_used : (s : Slate L) → length (in_use s) ≡ s.used
  as_used s = omega (
    arith,
    length-map (take s.used (vec_items s.cells)) cell_of,
    length-take s.used
        (vec_items s.cells),
    s.within,
    s.cells.ok.0,
  )

  known_used : (s : Slate L) (k : Known L) → StandsFor (on_slate s) k → k.used ≡ s.used
  known_used s k st = sym (number_known (in_use s) k st) ∙ as_used s

  -- cells in use can be arguments
  pub args_writable : (s : Slate L) (xs ys : List ℕ) → first_unused s.used xs ≡ None → ys ≡ xs → AllByRecursion
      (λ x. x < length (in_use s)) ys
  args_writable s xs ys u e =
      subst (AllByRecursion (λ x. x < length (in_use s))) (sym e) (subst (λ n. AllByRecursion (λ x. x < n) xs) (sym (as_used s))
      (all_used s.used xs u))

  -- two cells in use and a work list that is long enough are what the unifier asks for
  pub given : IsSet L → (s : Slate L) (work : List ℕ) (a b : ℕ) → first_unused s.used (a ∷ b ∷ []) ≡ None →
      9 * capacity (supplied s) ≤ length work → Given (take s.used (vec_items s.cells)) work a b
  given set s work a b u h =
      let n : length (take s.used (vec_items s.cells)) ≡ s.used = omega (
        arith,
        length-take s.used
            (vec_items s.cells),
        s.within,
        s.cells.ok.0,
      ) in
      let both = all_used s.used (a ∷ b ∷ []) u in
      record {
        sound = sound_out set (take s.used (vec_items s.cells)) s.sound;
        list = omega (arith, n, s.within, s.few);
        first = subst (λ m. a < m) (sym n) both.0;
        second = subst (λ m. b < m) (sym n) both.1.0;
      }

  -- the tests of cells
  bar : (k : Known L) (n : ℕ) (cs : List ℕ) (c : ℕ) (rest : Type 0) → k.used ≡ n → first_unused n cs ≡ Some c →
      UsedOr k cs (refused (not_in_use c)) rest
  bar k n cs c rest u e =
      let P : Option ℕ → Type 0 = λ o. elim o [
        | Some d ↦ refused (not_in_use c) ≡ refused
            (not_in_use d)
        | None ↦ rest
      ] in
      subst P (sym (ap (λ m. first_unused m cs) u ∙ e)) refl

  pass : (k : Known L) (n : ℕ) (cs : List ℕ) (a : Answer) (rest : Type 0) → k.used ≡ n → first_unused n cs ≡ None →
      rest → UsedOr k cs a rest
  pass k n cs a rest u e r =
      let P : Option ℕ → Type 0 = λ o. elim o [ Some d ↦ a ≡ refused (not_in_use d) | None ↦ rest ] in
      subst P (sym (ap (λ m. first_unused m cs) u ∙ e)) r

  module _ (old new : Slate L) (c : C.Content L) where
    next_cell : (r : Result ℕ Refusal) → Written old new c r → (k : Known L) → StandsFor (on_slate old) k →
        NextCell (supplied old) k (wrote_or r)
    next_cell (Ok n) w k st = inl (
      omega (arith, known_used old k st, w.1),
      ap wrote
          (w.0 ∙ sym (known_used old k st)),
    )
    next_cell (Err e) w k st =
        inr ((λ h. omega (arith, known_used old k st, w.1)), ap (λ x. refused (refusal_of x)) w.0)

    next_stands : (r : Result ℕ Refusal) → Written old new c r → (k : Known L) → StandsFor (on_slate old) k →
        StandsFor (on_slate new) (written k (and_content k.used c []) (wrote_or r))
    next_stands (Ok n) w k st =
        subst (λ cs. StandsFor (map lying cs) (record {
          used = suc k.used;
          equations = k.equations ++ and_content
              k.used c [];
        }))
        (sym w.2) (stands_written (in_use old) k c st)
    next_stands (Err e) w k st = subst (λ cs. StandsFor (map lying cs) k) (sym w.2) st

    next_many : (r : Result ℕ Refusal) → Written old new c r → supplied new ≡ supplied old
    next_many (Ok n) w = w.3
    next_many (Err e) w = w.3

    next_unaltered : (r : Result ℕ Refusal) → Written old new c r → Refuses (wrote_or r) → in_use new ≡ in_use old
    next_unaltered (Ok n) w b = absurd b
    next_unaltered (Err e) w b = w.2

  module _ (old new : Slate L) (r : Result ℕ Refusal) where
    pub open_kept : Written old new variable r → Kept old new write_open (wrote_or r)
    open_kept w =
        kept (λ book k ok st. (next_cell old new variable r w k st, next_stands old new variable r w k st))
        (next_many old new variable r w) (next_unaltered old new variable r w)

    pub leaf_kept : (v : L) → Written old new (leaf v) r → Kept old new (write_leaf v) (wrote_or r)
    leaf_kept v w =
        kept (λ book k ok st. (next_cell old new (leaf v) r w k st, next_stands old new (leaf v) r w k st))
        (next_many old new (leaf v) r w) (next_unaltered old new (leaf v) r w)

    pub node_kept : (f : ℕ) (xs : List ℕ) → f < 65536 → length xs ≤ 4 → first_unused old.used xs ≡ None →
        Written old new (node f xs) r → Kept old new (write_node f xs) (wrote_or r)
    node_kept f xs hf four u w =
        kept (λ book k ok st. (
          (
            hf,
            inr (
              (λ h. omega arith),
              pass k old.used xs (wrote_or r) (NextCell (supplied old) k (wrote_or r))
                  (known_used old k st) u (next_cell old new (node f xs) r w k st),
            ),
          ),
          next_stands old new (node f xs) r w k st,
        ))
        (next_many old new (node f xs) r w) (next_unaltered old new (node f xs) r w)

  module _ (s : Slate L) where
    -- refusals for the input, which leave the slate as it is
    pub node_too_many : (f : ℕ) (xs : List ℕ) → f < 65536 → 4 < length xs → Kept s s (write_node f xs)
        (refused too_many_arguments)
    node_too_many f xs hf h =
        kept (λ book k ok st. ((hf, inl (h, refl)), st))
        refl (λ b. refl)

    pub node_not_in_use : (f : ℕ) (xs : List ℕ) → f < 65536 → length xs ≤ 4 → (c : ℕ) → first_unused
        s.used xs ≡ Some c →
        Kept s s (write_node f xs) (refused (not_in_use c))
    node_not_in_use f xs hf four c u =
        kept (λ book k ok st. (
          (
            hf,
            inr (
              (λ h. omega arith),
              bar k s.used xs c (NextCell (supplied s) k
                  (refused (not_in_use c))) (known_used s k st) u,
            ),
          ),
          st,
        ))
        refl (λ b. refl)

    module _ (x y n : ℕ) where
      equate_not_in_use : (c : ℕ) → first_unused s.used (x ∷ y ∷ []) ≡ Some c → Kept s s (equate x y n)
          (refused (not_in_use c))
      equate_not_in_use c u =
          kept (λ book k ok st. (bar k s.used (x ∷ y ∷ []) c _ (known_used s k st) u, st))
          refl (λ b. refl)

      compare_not_in_use : (c : ℕ) → first_unused s.used (x ∷ y ∷ []) ≡ Some c → Kept s s (compare x y n)
          (refused (not_in_use c))
      compare_not_in_use c u =
          kept (λ book k ok st. (bar k s.used (x ∷ y ∷ []) c _ (known_used s k st) u, st))
          refl (λ b. refl)

      module _ (u : first_unused s.used (x ∷ y ∷ []) ≡ None) (h : n < 9 * capacity (supplied s)) where
        equate_too_short : Kept s s (equate x y n) (refused too_short)
        equate_too_short =
            kept (λ book k ok st. (
              pass k s.used (x ∷ y ∷ []) (refused too_short) _ (known_used s k st) u
                  (inl (h, refl)),
              st,
            ))
            refl (λ b. refl)

        compare_too_short : Kept s s (compare x y n) (refused too_short)
        compare_too_short =
            kept (λ book k ok st. (
              pass k s.used (x ∷ y ∷ []) (refused too_short) _ (known_used s k st) u
                  (inl (h, refl)),
              st,
            ))
            refl (λ b. refl)

  module _ (old new : Slate L) (x y n : ℕ) (u : first_unused old.used (x ∷ y ∷ []) ≡ None) (h : 9 * capacity
      (supplied old) ≤ n)
      (m : supplied new ≡ supplied old) where
    long : n < 9 * capacity (supplied old) → ⊥
    long p = omega arith

    pub equate_accepted : Did (in_use old) (in_use new) x y true → Kept old new (equate x y n) accepted
    equate_accepted d =
        kept (λ book k ok st.
        let z = d.2 k.equations (means_known (in_use old) k st) in (
          pass k old.used (x ∷ y ∷ []) accepted _ (known_used old k st) u (inr (long, inl (z.0, refl))),
          stands_for (in_use new) (record { used = k.used; equations = k.equations ++ (equal x y ∷ []) })
              (d.1 ∙ number_known (in_use old) k st) z.1,
        ))
        m (λ b. absurd b)

    pub equate_refused : Did (in_use old) (in_use new) x y false → Kept old new (equate x y n) (refused clash)
    equate_refused d =
        kept (λ book k ok st. (
          pass k old.used (x ∷ y ∷ []) (refused clash) _ (known_used old k st) u
              (inr (long, inr (d.1 k.equations (means_known (in_use old) k st), refl))),
          subst (λ cs. StandsFor (map lying cs) k) (sym d.0) st,
        ))
        m (λ b. d.0)

    pub compare_kept : (b : Bool) → Told (in_use old) x y b → in_use new ≡ in_use old → Kept old new (compare x y n)
        (same_or (Ok b))
    compare_kept true t e =
        kept (λ book k ok st. (
          pass k old.used (x ∷ y ∷ []) same _ (known_used old k st) u
              (inr (long, inl (t k.equations (means_known (in_use old) k st), refl))),
          subst (λ cs. StandsFor (map lying cs) k) (sym e) st,
        ))
        m (λ b. e)
    compare_kept false t e =
        kept (λ book k ok st. (
          pass k old.used (x ∷ y ∷ []) different _ (known_used old k st) u
              (inr (long, inr (t k.equations (means_known (in_use old) k st), refl))),
          subst (λ cs. StandsFor (map lying cs) k) (sym e) st,
        ))
        m (λ b. e)

  module _ (s : Slate L) (x y n : ℕ) (e : Refusal) where
    -- a refusal by them, of equating and of comparing
    pub equate_barred : Admits {U = Unit {0}} s n x y (Err e) → Kept s s (equate x y n) (refused (refusal_of e))
    equate_barred (inl h) = subst (λ d. Kept s s (equate x y n) (refused (refusal_of d))) (sym h.1)
        (equate_not_in_use s x y n h.0 h.2)
    equate_barred (inr h) = subst (λ d. Kept s s (equate x y n) (refused (refusal_of d))) (sym h.0)
        (equate_too_short s x y n h.1 h.2)

    pub compare_barred : Admits {U = Unit {0}} s n x y (Err e) → Kept s s (compare x y n) (refused (refusal_of e))
    compare_barred (inl h) = subst (λ d. Kept s s (compare x y n) (refused (refusal_of d))) (sym h.1)
        (compare_not_in_use s x y n h.0 h.2)
    compare_barred (inr h) = subst (λ d. Kept s s (compare x y n) (refused (refusal_of d))) (sym h.0)
        (compare_too_short s x y n h.1 h.2)
