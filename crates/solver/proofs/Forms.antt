-- Which rule a step breaks by its form, by the tests that are made of it.
use Rattle.std.proofs.Common.{◌≡◌, ℕ, zero, suc, ◌<◌, ◌≤◌, Bool, true, false, eqb, List, [], ◌∷◌, length, Some, None, Option, sym, refl, ap, ◌∙◌, inl, inr, arith}
use mathlib.Core.Logic.{∥∥₁_elim}
use native.Mathlib.Bridge.{le_prop}
use Rattle.std.specs.List.{slice_get}
use Rattle.std.proofs.lemmas.Option.{slice_get_past}
use Rattle.std.proofs.lemmas.Bool.{eqb-true}
use Rattle.theory.specs.Entries.{Entry, Kind, clause, cofact, BookRules}
use Rattle.theory.specs.Records.{Replay, Replayed, broken, went, member, step, take_step, by_mode, by_clause, by_path, by_entry, expand}
use Rattle.theory.specs.Records as T
use Rattle.calls.specs.declared.step.Step.{Step}
use Rattle.calls.specs.Steps.{step_of}
use Rattle.frames.specs.declared.frame.Goal.{Goal}
use Rattle.frames.specs.declared.frame.Frame.{Frame}
use Rattle.frames.specs.Goals.{above}
use Rattle.frames.specs.Tries.{mode_of, IsClause, Chain, OnPath}
use Rattle.frames.proofs.Following.{nth_inside, true_false}
use Rattle.frames.proofs.Agreeing.{below}
use Rattle.frames.proofs.Leaving.{pends_chain}
use Rattle.slate.specs.declared.refusal.Rule.TheVariants.{GoalAndMode, ClauseForOuter, LoopOfOuter, EntryForInner}
use Rattle.solver.specs.Checking.{Tested}

-- there is something at each place of a list
found_at : {A : Type 0} (xs : List A) (i : ℕ) → i < length xs → (x : A) × (slice_get xs i ≡ Some x)
found_at [] i h = absurd (omega arith)
found_at (x ∷ xs) zero h = (x, refl)
found_at (x ∷ xs) (suc i) h = found_at xs i (omega arith)

-- the steps of a chain stand before its goal
chain_below : (frames : List Frame) (chain : List ℕ) (p : Option ℕ) (n k : ℕ) → Chain frames chain p → above p ≤ n →
    member k chain ≡ true → k < n
chain_below frames [] p n k c h m = absurd (true_false (sym m))
chain_below frames (s ∷ chain) p n k c h m =
    go (eqb k s) refl m (λ i. chain_below frames chain c.1.0.goal.parent n k c.1.3 i)
  where
    first : s < n
    first = below p s n c.0 h

    go : (b : Bool) → eqb k s ≡ b → (elim b [ true ↦ true | false ↦ member k chain ]) ≡ true →
        (above c.1.0.goal.parent ≤ n → member k chain ≡ true → k < n) → k < n
    go true e q later = let z : k ≡ s = eqb-true k s e in let i : s < n = first in omega arith
    go false e q later =
        let low : above c.1.0.goal.parent ≤ s = c.1.2.lower in
        let i : s < n = first in
        later (omega arith) q

module _ {V : Type 0} (book : List (Entry V)) where
  module _ (r : Replay V) (x : T.Step) where
    -- no goal is pending
    pub nothing_pends : r.pending ≡ [] → step book r x ≡ broken 2
    nothing_pends p = ap (take_step book r x) p

    module _ (g : T.Goal) (rest : List T.Goal) (list : r.pending ≡ g ∷ rest) where
      -- the mode decides
      at_mode : (m : ℕ) → x.mode ≡ m → step book r x ≡ by_mode book r g rest m x.number
      at_mode m e = ap (take_step book r x) list ∙ ap (λ k. by_mode book r g rest k x.number) e

      -- another mode
      pub other_mode : (x.mode ≡ 1 → ⊥) → (x.mode ≡ 2 → ⊥) → (x.mode ≡ 3 → ⊥) → step book r x ≡ broken 2
      other_mode a b c = at_mode x.mode refl ∙ go x.mode a b c
        where
          go : (m : ℕ) → (m ≡ 1 → ⊥) → (m ≡ 2 → ⊥) → (m ≡ 3 → ⊥) → by_mode book r g rest m x.number ≡ broken 2
          go zero a b c = refl
          go (suc zero) a b c = absurd (a refl)
          go (suc (suc zero)) a b c = absurd (b refl)
          go (suc (suc (suc zero))) a b c = absurd (c refl)
          go (suc (suc (suc (suc m)))) a b c = refl

      -- mode 1 with an inner goal, or with no clause
      pub clause_inner : x.mode ≡ 1 → g.inner ≡ true → step book r x ≡ broken 3
      clause_inner m i = at_mode 1 m ∙ ap (λ b. by_clause r g rest b (slice_get book x.number)) i

      pub no_clause : x.mode ≡ 1 → g.inner ≡ false → IsClause book x.number false → step book r x ≡ broken 3
      no_clause m i c =
          at_mode 1 m
          ∙ (ap (λ b. by_clause r g rest b (slice_get book x.number)) i ∙ go (slice_get book x.number) c)
        where
          kind : (e : Entry V) (k : Kind) → k ≡ cofact →
              Path (Replayed V) (elim k [ clause ↦ went (expand r g rest e) | cofact ↦ broken 3 ]) (broken 3)
          kind e k q = ap (λ (z : Kind). elim z as (λ w. Replayed V) [ clause ↦ went (expand r g rest e) | cofact ↦ broken 3 ]) q

          go : (o : Option (Entry V)) → ((e : Entry V) → o ≡ Some e → e.kind ≡ cofact) → by_clause r g rest false o ≡ broken 3
          go None c = refl
          go (Some e) c = kind e e.kind (c e refl)

      -- mode 2 with an inner goal, or with a step that is not on the path
      pub loop_inner : x.mode ≡ 2 → g.inner ≡ true → step book r x ≡ broken 4
      loop_inner m i = at_mode 2 m ∙ ap (λ b. by_path r g rest b x.number (member x.number g.path)) i

      pub no_loop : x.mode ≡ 2 → g.inner ≡ false → member x.number g.path ≡ false → step book r x ≡ broken 4
      no_loop m i p =
          at_mode 2 m
          ∙ (ap (λ b. by_path r g rest b x.number (member x.number g.path)) i
          ∙ ap (by_path r g rest false x.number) p)

      -- mode 3 with an outer goal, or with no entry
      pub entry_outer : x.mode ≡ 3 → g.inner ≡ false → step book r x ≡ broken 5
      entry_outer m i = at_mode 3 m ∙ ap (λ b. by_entry r g rest b (slice_get book x.number)) i

      pub no_entry : x.mode ≡ 3 → g.inner ≡ true → length book ≤ x.number → step book r x ≡ broken 5
      no_entry m i h =
          at_mode 3 m
          ∙ (ap (λ b. by_entry r g rest b (slice_get book x.number)) i
          ∙ ap (by_entry r g rest true) (slice_get_past book x.number h))

  module _ (frames : List Frame) (goal : Goal) (x : Step) where
    -- the steps that break a rule
    pub bad_mode : (x.mode ≡ 1 → ⊥) → (x.mode ≡ 2 → ⊥) → (x.mode ≡ 3 → ⊥) → Tested book frames goal x (Some GoalAndMode)
    bad_mode a b c goals r u = other_mode r (step_of x) u.first u.rest u.list a b c

    pub bad_clause_inner : x.mode ≡ 1 → goal.inner ≡ true → Tested book frames goal x (Some ClauseForOuter)
    bad_clause_inner m i goals r u = clause_inner r (step_of x) u.first u.rest u.list m (u.is.inner ∙ i)

    pub bad_clause : x.mode ≡ 1 → goal.inner ≡ false → IsClause book x.number false → Tested book frames goal x (Some ClauseForOuter)
    bad_clause m i c goals r u = no_clause r (step_of x) u.first u.rest u.list m (u.is.inner ∙ i) c

    pub bad_loop_inner : x.mode ≡ 2 → goal.inner ≡ true → Tested book frames goal x (Some LoopOfOuter)
    bad_loop_inner m i goals r u = loop_inner r (step_of x) u.first u.rest u.list m (u.is.inner ∙ i)

    pub bad_loop : x.mode ≡ 2 → goal.inner ≡ false → OnPath frames goal.parent x.number false →
        Tested book frames goal x (Some LoopOfOuter)
    bad_loop m i p goals r u =
        no_loop r (step_of x) u.first u.rest u.list m (u.is.inner ∙ i)
        (ap (member x.number) (u.is.path i)
        ∙ sym (p u.chain (pends_chain book goals frames u.chain goal.parent (suc goal.place) u.rest u.pends)))

    pub bad_entry_outer : x.mode ≡ 3 → goal.inner ≡ false → Tested book frames goal x (Some EntryForInner)
    bad_entry_outer m i goals r u = entry_outer r (step_of x) u.first u.rest u.list m (u.is.inner ∙ i)

    pub bad_entry : x.mode ≡ 3 → goal.inner ≡ true → length book ≤ x.number → Tested book frames goal x (Some EntryForInner)
    bad_entry m i h goals r u = no_entry r (step_of x) u.first u.rest u.list m (u.is.inner ∙ i) h

    -- the steps that break none
    pub good_loop : x.mode ≡ 2 → goal.inner ≡ false → OnPath frames goal.parent x.number true →
        Tested book frames goal x None
    good_loop m i p goals l u n h =
        let chain : Chain frames u.chain goal.parent =
        pends_chain book goals frames u.chain goal.parent (suc goal.place) u.rest u.pends in
        let on : member x.number u.chain ≡ true = sym (p u.chain chain) in
        inl (m, i, on, chain_below frames u.chain goal.parent n x.number chain h on)

    module _ (rules : ∥ BookRules book ∥₁) where
      few : (e : Entry V) → slice_get book x.number ≡ Some e → x.number < 1024
      few e f =
          ∥∥₁_elim rules le_prop (λ z.
          let h : x.number < length book = nth_inside book x.number e f in
          let k : length book ≤ 1024 = z.few in
          omega arith)

      pub good_clause : x.mode ≡ 1 → goal.inner ≡ false → IsClause book x.number true → Tested book frames goal x None
      good_clause m i c goals l u n h = inr (
        m ∙ sym (ap mode_of i),
        record { entry = c.0; found = c.1; outer = λ z. c.2; few = few c.0 c.1 },
      )

      pub good_entry : x.mode ≡ 3 → goal.inner ≡ true → x.number < length book → Tested book frames goal x None
      good_entry m i k goals l u n h =
          let f = found_at book x.number k in
          inr (
            m ∙ sym (ap mode_of i),
            record { entry = f.0; found = f.1; outer = λ z. absurd (true_false (sym i ∙ z)); few = few f.0 f.1 },
          )
