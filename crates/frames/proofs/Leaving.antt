-- Which tries are left of a goal, and what each of them comes to by the definitions.
use Rattle.std.proofs.Common.{◌≡◌, ℕ, zero, suc, ◌+◌, ◌<◌, ◌≤◌, Bool, true, false, cond, eqb, List, [], ◌∷◌, ◌++◌, map, length, get_or, Some, None, Option, sym, refl, ap, ◌∙◌, subst, inl, inr, append_assoc, append-nil, arith}
use mathlib.Core.List.{cons≢nil}
use Rattle.std.specs.List.{slice_get}
use Rattle.std.proofs.lemmas.Option.{slice_get-get_or}
use Rattle.std.proofs.lemmas.Bool.{eq-eqb, ne_eqb}
use Rattle.theory.specs.Entries.{Entry, clause}
use Rattle.theory.specs.Records.{Term, cell, part, Replay, Replayed, member, step, expand, close}
use Rattle.theory.specs.Records as T
use Rattle.theory.specs.Search.{tries, tries_of, clauses_from}
use Rattle.theory.specs.Known.{placed}
use Rattle.theory.proofs.Elements.{none_some, some_inj}
use Rattle.theory.proofs.Steps.{goes, clause_step, loop_step, entry_step}
use Rattle.unify.specs.Cells.{Cell}
use Rattle.unify.specs.Unify.{unify}
use Rattle.searching.specs.Trying.{copied, with_entry, with_step, attempt}
use Rattle.searching.proofs.Scopes.{Within}
use Rattle.calls.specs.declared.step.Step.{Step}
use Rattle.calls.specs.Steps.{step_of}
use Rattle.frames.specs.declared.frame.Goal.{Goal}
use Rattle.frames.specs.declared.frame.Frame.{Frame}
use Rattle.frames.specs.declared.frame.Cursor.{Cursor}
use Rattle.frames.specs.Goals.{above, base_of, lies_at, Pends, Current}
use Rattle.frames.specs.Tries.{mode_of, parent_of, cursor_after, Named, entries_left, NextEntry, NextTry}
use Rattle.frames.specs.Tries.{Chain, first_cursor, Leftover, Allowed}
use Rattle.frames.specs.Levels.{Tells, Level}
use Rattle.frames.proofs.Following.{unset, true_false, within_more}
use Rattle.frames.proofs.Agreeing.{below}

-- a chain from no step is empty
no_chain : (frames : List Frame) (chain : List ℕ) (p : Option ℕ) → p ≡ None → Chain frames chain p → chain ≡ []
no_chain frames [] p e c = refl
no_chain frames (s ∷ chain) p e c = absurd (none_some (sym e ∙ c.0))

-- the number stands in the middle of the list
member_middle : (a b : List ℕ) (n : ℕ) → member n (a ++ (n ∷ b)) ≡ true
member_middle [] b n = ap (λ t. elim t [ true ↦ true | false ↦ member n b ]) (eq-eqb n n refl)
member_middle (x ∷ a) b n = go (eqb n x) (member_middle a b n)
  where
    go : (t : Bool) → member n (a ++ (n ∷ b)) ≡ true → (elim t [ true ↦ true | false ↦ member n (a ++ (n ∷ b)) ]) ≡ true
    go true h = refl
    go false h = h

-- the mode by which a goal takes an entry closes no loop
mode_apart : (inner : Bool) → mode_of inner ≡ 2 → ⊥
mode_apart true e = omega arith
mode_apart false e = omega arith

module _ {V : Type 0} (book : List (Entry V)) (frames : List Frame) (n : ℕ) (inner : Bool) (path : List ℕ) where
  -- the next try, and those that it leaves
  pub record NextLeft (left : List T.Step) (x : Step) : Type 0 where
    pub others : List T.Step
    pub is : left ≡ step_of x ∷ others
    pub leaves : Leftover book frames n inner path (cursor_after frames x) others
    pub named : Named n x
    pub allowed : Allowed book frames n inner path x

  module _ (short : n ≤ 4096) (c : Cursor) (left : List T.Step) (o : Leftover book frames n inner path c left) where
    -- no entry is left, and no step on the path
    pub no_try : NextTry book inner c None → left ≡ []
    no_try (p, e) =
        o.is
        ∙ (ap (λ l. map (T.step_of 2) l ++ entries_left book inner c.entry) (no_chain frames o.chain c.path p o.chained)
        ∙ e)

    -- the next try closes a loop
    loop_left : (x : Step) → x.mode ≡ 2 → c.path ≡ Some x.number → (chain : List ℕ) → o.chain ≡ chain →
        Chain frames chain c.path → NextLeft left x
    loop_left x m p [] e ch = absurd (none_some (sym ch ∙ p))
    loop_left x m p (s ∷ chain) e ch =
        let sx : s ≡ x.number = some_inj (sym ch.0 ∙ p) in
        let f : Frame = ch.1.0 in
        let fx : slice_get frames x.number ≡ Some f = subst (λ k. slice_get frames k ≡ Some f) sx ch.1.1 in
        let low : above f.goal.parent ≤ s = ch.1.2.lower in
        let inside : x.number < n = below c.path x.number n p o.lower in
        let path_is : path ≡ o.before ++ (x.number ∷ chain) =
        o.on_path ∙ ap (λ l. o.before ++ l) (e ∙ ap (λ k. k ∷ chain) sx) in
        let outer : inner ≡ false =
        go inner (λ i. cons≢nil (sym e ∙ o.inner_none i)) in
        let after : cursor_after frames x ≡ record { path = f.goal.parent; entry = 0 } =
        ap (λ b. cond b (record { path = parent_of (slice_get frames x.number); entry = 0 })
        (record { path = None; entry = suc x.number })) (eq-eqb x.mode 2 m)
        ∙ ap (λ q. record { path = parent_of q; entry = 0 }) fx in
        record {
          others = map (T.step_of 2) chain ++ entries_left book inner c.entry;
          is =
              o.is
              ∙ (ap (λ l. map (T.step_of 2) l ++ entries_left book inner c.entry) (e ∙ ap (λ k. k ∷ chain) sx)
              ∙ ap (λ k. T.step_of k x.number ∷ (map (T.step_of 2) chain ++ entries_left book inner c.entry)) (sym m));
          leaves =
              subst (λ d. Leftover book frames n inner path d (map (T.step_of 2) chain ++ entries_left book inner c.entry))
              (sym after)
              (record {
                chain = chain;
                lower = omega arith;
                chained = ch.1.3;
                fresh = λ t q. refl;
                before = o.before ++ (x.number ∷ []);
                on_path = path_is ∙ sym (append_assoc o.before (x.number ∷ []) chain);
                inner_none = λ i. true_false (sym i ∙ outer);
                is =
                    ap (λ k. map (T.step_of 2) chain ++ entries_left book inner k) (o.fresh x.number p);
              });
          named = ((λ z. inside), omega arith);
          allowed = inl (m, outer, ap (member x.number) path_is ∙ member_middle o.before chain x.number, inside);
        }
      where
        go : (i : Bool) → (i ≡ true → ⊥) → i ≡ false
        go true h = absurd (h refl)
        go false h = refl

    -- the next try takes an entry
    entry_left : (x : Step) → c.path ≡ None → x.mode ≡ mode_of inner → NextEntry book inner c.entry (Some x.number) →
        NextLeft left x
    entry_left x p m (e, t) =
        let none : o.chain ≡ [] = no_chain frames o.chain c.path p o.chained in
        let apart : x.mode ≡ 2 → ⊥ = λ z. mode_apart inner (sym m ∙ z) in
        let after : cursor_after frames x ≡ record { path = None; entry = suc x.number } =
        ap (λ b. cond b (record { path = parent_of (slice_get frames x.number); entry = 0 })
        (record { path = None; entry = suc x.number })) (ne_eqb x.mode 2 apart) in
        let k : x.number < 1024 = t.few in
        record {
          others = entries_left book inner (suc x.number);
          is =
              o.is
              ∙ (ap (λ l. map (T.step_of 2) l ++ entries_left book inner c.entry) none
              ∙ (e ∙ ap (λ z. T.step_of z x.number ∷ entries_left book inner (suc x.number)) (sym m)));
          leaves =
              subst (λ d. Leftover book frames n inner path d (entries_left book inner (suc x.number))) (sym after)
              (record {
                chain = [];
                lower = omega arith;
                chained = refl;
                fresh = λ s q. absurd (none_some q);
                before = path;
                on_path = sym (append-nil path);
                inner_none = λ i. refl;
                is = refl;
              });
          named = ((λ z. absurd (apart z)), omega arith);
          allowed = inr (m, t);
        }

    -- the next try, whatever it is
    pub next_left : (x : Step) → NextTry book inner c (Some x) → NextLeft left x
    next_left x (inl (m, p)) = loop_left x m p o.chain refl o.chained
    next_left x (inr (p, m, e)) = entry_left x p m e

module _ {V : Type 0} (book : List (Entry V)) (goals : List ℕ) (frames : List Frame) where
  -- the steps that goals come from are a chain
  pub pends_chain : (chain : List ℕ) (p : Option ℕ) (j : ℕ) (l : List T.Goal) → Pends book goals frames chain p j l →
      Chain frames chain p
  pends_chain [] p j l q = q.0
  pends_chain (s ∷ chain) p j l q =
      (q.0, (q.1.0, q.1.3, q.1.4, pends_chain chain q.1.0.goal.parent (suc q.1.0.goal.place) q.1.2 q.1.7))

  -- all tries of a goal are left when it is first faced
  pub all_left : (n : ℕ) (goal : Goal) (l : List T.Goal) (u : Current book goals frames goal l) → above goal.parent ≤ n →
      Leftover book frames n goal.inner u.chain (first_cursor goal) (tries book l)
  all_left n goal l u h =
      subst (Leftover book frames n goal.inner u.chain (first_cursor goal))
      (sym (ap (tries book) u.list ∙ ap (λ i. tries_of book i u.first.path) u.is.inner))
      (go goal.inner u.is.path)
    where
      go : (i : Bool) → (i ≡ false → u.first.path ≡ u.chain) →
          Leftover book frames n i u.chain (record { path = cond i None goal.parent; entry = 0 })
          (tries_of book i u.first.path)
      go true p = record {
        chain = [];
        lower = omega arith;
        chained = refl;
        fresh = λ s e. refl;
        before = u.chain;
        on_path = sym (append-nil u.chain);
        inner_none = λ i. refl;
        is = refl;
      }
      go false p = record {
        chain = u.chain;
        lower = h;
        chained = pends_chain u.chain goal.parent (suc goal.place) u.rest u.pends;
        fresh = λ s e. refl;
        before = [];
        on_path = refl;
        inner_none = λ i. true_false (sym i);
        is = ap (λ q. map (T.step_of 2) q ++ clauses_from 0 book) (p refl);
      }

module _ {V : Type 0} (same : V → V → Bool) (book : List (Entry V)) (goals : List ℕ) (used₀ : ℕ) (cells₀ : List (Cell V))
    (frames : List Frame) (n : ℕ) (r : Replay V) (steps : List T.Step) (cells : List (Cell V)) (trail : List ℕ)
    (level : Level book goals used₀ cells₀ frames n r steps cells trail) where
  -- a term of the steps that stand lies where its frame tells
  placed_lies : (t : Term) → Within n t → placed used₀ r.offsets t ≡ lies_at frames t
  placed_lies (cell c) w = refl
  placed_lies (part s j) w =
      let h : s < length frames = (let k : n ≤ length frames = level.framed in omega arith) in
      let e : slice_get frames s ≡ Some (get_or frames s unset) = slice_get-get_or frames s unset h in
      let b : used₀ + get_or r.offsets s 0 ≡ (get_or frames s unset).used = (level.tells s (get_or frames s unset) e w).base in
      let z : base_of (slice_get frames s) ≡ (get_or frames s unset).used = ap base_of e in
      omega arith

  module _ (goal : Goal) (u : Current book goals frames goal r.pending) (lower : above goal.parent ≤ n) where
    pub goal_placed : placed used₀ r.offsets u.first.term ≡ goal.cell
    goal_placed =
        placed_lies u.first.term (within_more (above goal.parent) n lower u.first.term u.is.within) ∙ u.is.lies

    -- the next instance lies behind the cells in use
    next_there : ◌≡◌ {A = ℕ → ℕ} (λ j. used₀ + (r.cells + j)) (λ j. length cells + j)
    next_there =
        λ i j. go j i
      where
        go : (j : ℕ) → (used₀ + (r.cells + j)) ≡ length cells + j
        go j = let z : length cells ≡ used₀ + r.cells = level.number in omega arith

    module _ (x : Step) where
      -- a step that takes an entry
      pub entry_on : (e : Entry V) → slice_get book x.number ≡ Some e → x.mode ≡ mode_of goal.inner →
          (goal.inner ≡ false → e.kind ≡ clause) →
          step book r (step_of x) ≡ Replayed.went (expand r u.first u.rest e)
      entry_on e p m k =
          ap (λ z. step book r (T.step_of z x.number)) m ∙ go goal.inner u.is.inner k
        where
          go : (i : Bool) → u.first.inner ≡ i → (i ≡ false → e.kind ≡ clause) →
              step book r (T.step_of (mode_of i) x.number) ≡ Replayed.went (expand r u.first u.rest e)
          go true q k = goes book r _ _ (entry_step u.first u.rest x.number e u.list q p)
          go false q k = goes book r _ _ (clause_step u.first u.rest x.number e u.list q p (k refl))

      pub entry_attempt : (e : Entry V) → slice_get book x.number ≡ Some e → x.mode ≡ mode_of goal.inner →
          attempt same book used₀ cells r u.first x.mode x.number
          ≡ unify same (copied (λ j. length cells + j) cells e.parts) goal.cell (length cells + e.head)
      unfolding attempt with_entry
      entry_attempt e p m =
          ap (λ z. attempt same book used₀ cells r u.first z x.number) m
          ∙ (go goal.inner
          ∙ (ap (with_entry same book used₀ cells r u.first) p
          ∙ (λ i. unify same (copied (next_there i) cells e.parts) (goal_placed i) (next_there i e.head))))
        where
          go : (i : Bool) →
              attempt same book used₀ cells r u.first (mode_of i) x.number
              ≡ with_entry same book used₀ cells r u.first (slice_get book x.number)
          go true = refl
          go false = refl

      -- a step that closes a loop
      module _ (m : x.mode ≡ 2) (i : goal.inner ≡ false) (p : member x.number u.chain ≡ true) where
        pub loop_on : step book r (step_of x) ≡ Replayed.went (close r u.first u.rest x.number)
        loop_on =
            ap (λ z. step book r (T.step_of z x.number)) m
            ∙ goes book r _ _ (loop_step u.first u.rest x.number u.list (u.is.inner ∙ i)
            (ap (member x.number) (u.is.path i) ∙ p))

      pub loop_attempt : x.mode ≡ 2 → (f : Frame) → slice_get frames x.number ≡ Some f → x.number < n →
          attempt same book used₀ cells r u.first x.mode x.number ≡ unify same cells goal.cell f.goal.cell
      unfolding attempt with_step
      loop_attempt m f e h =
          let t : Tells book goals used₀ cells₀ frames r steps (length cells) n x.number f = level.tells x.number f e h in
          let taken : get_or r.taken x.number u.first.term ≡ t.term = nth_is r.taken x.number t.term u.first.term t.taken in
          ap (λ z. attempt same book used₀ cells r u.first z x.number) m
          ∙ (λ i. unify same cells (goal_placed i)
          ((ap (placed used₀ r.offsets) taken ∙ (placed_lies t.term t.within ∙ t.lies)) i))
        where
          nth_is : (xs : List Term) (k : ℕ) (y d : Term) → slice_get xs k ≡ Some y → get_or xs k d ≡ y
          nth_is [] k y d q = absurd (none_some q)
          nth_is (z ∷ xs) zero y d q = some_inj q
          nth_is (z ∷ xs) (suc k) y d q = nth_is xs k y d q
