-- Each verdict of check says exactly what it should.
use Rattle.std.proofs.Common.{◌≡◌, ℕ, suc, ◌+◌, ◌<◌, ◌≤◌, List, [], ◌∷◌, ◌++◌, length, sym, refl, ap, ◌∙◌, subst, inl, inr, append-nil, add-zero, add-suc, suc-add, zero-add, arith}
use mathlib.Core.List.{cons≢nil}
use Rattle.theory.specs.Equations.{Equation, Solvable}
use Rattle.theory.specs.Entries.{Entry}
use Rattle.theory.specs.Records.{Step, Goal, Replay, Replayed, broken, went, start, step, Leads, together}
use Rattle.theory.specs.Check.{If, Verdict, passed, unlawful, no_cells, AtEnd, CheckFrom, Check, Fitting, Good}
use Rattle.theory.specs.Check.{Breaks, BreaksNext, Overflows, OverflowsNext, GoodUpTo, FirstBad, Exact}
use Rattle.theory.proofs.Elements.{never}
use Rattle.theory.proofs.Replays.{grows, cells_grow, leads_replay, earlier_same, started}

-- what is not more is at most
fits : (a b : ℕ) → (b < a → ⊥) → a ≤ b
fits a b n = omega arith

module _ {V : Type 0} (book : List (Entry V)) (known : List (Equation V ℕ)) (free : ℕ) where
  -- what check asks of a step, by what comes of it
  abbrev Asks : ℕ → List Step → Verdict → Replayed V → Type 0
  Asks i xs v (broken rule) = v ≡ unlawful i rule
  Asks i xs v (went m) =
      If (free < m.cells) (v ≡ no_cells)
      (If (Solvable (together known m)) (CheckFrom book known free m (suc i) xs v) (v ≡ unlawful i 7))

  -- check is what it asks of its first step and the rest
  asks : (r : Replay V) (x : Step) (i : ℕ) (xs : List Step) (v : Verdict) →
      CheckFrom book known free r i (x ∷ xs) v → Asks i xs v (step book r x)
  asks r x i xs v g = go (step book r x) g
    where
      At : Replayed V → Type 0
      At = elim [
        | broken rule ↦ v ≡ unlawful i rule
        | went m ↦
            If (free < m.cells) (v ≡ no_cells)
            (If (Solvable (together known m)) (CheckFrom book known free m (suc i) xs v) (v ≡ unlawful i 7))
      ]

      go : (o : Replayed V) → At o → Asks i xs v o
      go (broken rule) h = h
      go (went m) h = h

  -- check ends at a step, by what comes of it
  abbrev EndsAt : ℕ → Verdict → Replayed V → Type 0
  EndsAt i v (broken rule) = v ≡ unlawful i rule
  EndsAt i v (went m) =
      If (free < m.cells) (v ≡ no_cells) ((Solvable (together known m) → ⊥) × (v ≡ unlawful i 7))

  -- check ends at the next step, or at the end
  abbrev Ends : ℕ → Verdict → Replay V → List Step → Type 0
  Ends i v r [] = AtEnd r.pending i v
  Ends i v r (x ∷ xs) = EndsAt i v (step book r x)

  -- the steps from a replay on are good up to some place, and check ends there
  record Stop (r : Replay V) (i : ℕ) (xs : List Step) (v : Verdict) : Type 0 where
    before : List Step
    rest : List Step
    whole : xs ≡ before ++ rest
    at : Replay V
    leads : Leads book r before at
    cells : at.cells ≤ free
    solvable : Solvable (together known at)
    ends : Ends (i + length before) v at rest

  -- check ends somewhere
  stops : (xs : List Step) (r : Replay V) (i : ℕ) (v : Verdict) → r.cells ≤ free → Solvable (together known r) →
      CheckFrom book known free r i xs v → Stop r i xs v
  stops [] r i v c s g = record {
    before = [];
    rest = [];
    whole = refl;
    at = r;
    leads = refl;
    cells = c;
    solvable = s;
    ends = subst (λ k. Ends k v r []) (sym (add-zero i)) g;
  }
  stops (x ∷ xs) r i v c s g = go (step book r x) refl (asks r x i xs v g) (λ m. stops xs m (suc i) v)
    where
      here : EndsAt i v (step book r x) → Stop r i (x ∷ xs) v
      here e = record {
        before = [];
        rest = x ∷ xs;
        whole = refl;
        at = r;
        leads = refl;
        cells = c;
        solvable = s;
        ends = subst (λ k. EndsAt k v (step book r x)) (sym (add-zero i)) e;
      }

      further : (m : Replay V) → step book r x ≡ went m → Stop m (suc i) xs v → Stop r i (x ∷ xs) v
      further m e u = record {
        before = x ∷ u.before;
        rest = u.rest;
        whole = ap (λ l. x ∷ l) u.whole;
        at = u.at;
        leads = (m, e, u.leads);
        cells = u.cells;
        solvable = u.solvable;
        ends =
            subst (λ k. Ends k v u.at u.rest)
            (suc-add i (length u.before) ∙ sym (add-suc i (length u.before))) u.ends;
      }

      go : (o : Replayed V) → step book r x ≡ o → Asks i xs v o →
          ((m : Replay V) → m.cells ≤ free → Solvable (together known m) →
          CheckFrom book known free m (suc i) xs v → Stop m (suc i) xs v) →
          Stop r i (x ∷ xs) v
      go (broken rule) e h later = here (subst (EndsAt i v) (sym e) h)
      go (went m) e (inl (l, h)) later = here (subst (EndsAt i v) (sym e) (inl (l, h)))
      go (went m) e (inr (n, inl (t, h))) later = further m e (later m (fits m.cells free n) t h)
      go (went m) e (inr (n, inr (t, h))) later = here (subst (EndsAt i v) (sym e) (inr (n, (t, h))))

  -- check gets past good steps
  gets_past : (before rest : List Step) (r at : Replay V) (i : ℕ) (v : Verdict) → Leads book r before at →
      at.cells ≤ free → Solvable (together known at) →
      CheckFrom book known free r i (before ++ rest) v → CheckFrom book known free at (i + length before) rest v
  gets_past [] rest r at i v l c s g =
      subst (λ k. CheckFrom book known free at k rest v) (sym (add-zero i))
      (subst (λ q. CheckFrom book known free q i rest v) l g)
  gets_past (x ∷ xs) rest r at i v (m, e, l) c s g =
      subst (λ k. CheckFrom book known free at k rest v) (suc-add i (length xs) ∙ sym (add-suc i (length xs)))
      (gets_past xs rest m at (suc i) v l c s
      (go (subst (Asks i (xs ++ rest) v) e (asks r x i (xs ++ rest) v g))))
    where
      low : m.cells ≤ free
      low = let a : m.cells ≤ at.cells = cells_grow book m xs at l in omega arith

      solved : Solvable (together known m)
      solved = earlier_same known m at (grows book m xs at l) s

      bad : free < m.cells → ⊥
      bad h = omega (arith, low)

      go : Asks i (xs ++ rest) v (went m) → CheckFrom book known free m (suc i) (xs ++ rest) v
      go (inl (h, q)) = absurd (bad h)
      go (inr (h, inl (t, q))) = q
      go (inr (h, inr (t, q))) = absurd (t solved)

  -- where check ends by passing, nothing is left
  ends_passed : (i : ℕ) (v : Verdict) (r : Replay V) (xs : List Step) → v ≡ passed → Ends i v r xs →
      (xs ≡ []) × (r.pending ≡ [])
  ends_passed i v r [] p h = go r.pending refl h
    where
      go : (l : List Goal) → r.pending ≡ l → AtEnd l i v → (◌≡◌ {A = List Step} [] []) × (r.pending ≡ [])
      go [] e h = (refl, e)
      go (g ∷ l) e h = never (cc)
  ends_passed i v r (x ∷ xs) p h = go (step book r x) h
    where
      go : (o : Replayed V) → EndsAt i v o → (x ∷ xs ≡ []) × (r.pending ≡ [])
      go (broken rule) h = never (cc)
      go (went m) (inl (l, h)) = never (cc)
      go (went m) (inr (n, (t, h))) = never (cc)

  -- where it ends by naming a rule, the next step breaks the rule
  ends_unlawful : (i j rule : ℕ) (v : Verdict) (r : Replay V) (xs : List Step) → v ≡ unlawful j rule →
      Ends i v r xs →
      (i ≡ j) × BreaksNext book known free r xs rule
  ends_unlawful i j rule v r [] p h = go r.pending refl h
    where
      go : (l : List Goal) → r.pending ≡ l → AtEnd l i v → (i ≡ j) × BreaksNext book known free r [] rule
      go [] e h = never (cc)
      go (g ∷ l) e h = (cc, (cc, λ q. cons≢nil (sym e ∙ q)))
  ends_unlawful i j rule v r (x ∷ xs) p h = go (step book r x) h
    where
      go : (o : Replayed V) → EndsAt i v o → (i ≡ j) × Breaks book known free o rule
      go (broken k) h = (cc, cc)
      go (went m) (inl (l, h)) = never (cc)
      go (went m) (inr (n, (t, h))) = (cc, (cc, fits m.cells free n, t))

  -- where it ends for want of cells, the next step does not fit
  ends_short : (i : ℕ) (v : Verdict) (r : Replay V) (xs : List Step) → v ≡ no_cells → Ends i v r xs →
      OverflowsNext book known free r xs
  ends_short i v r [] p h = go r.pending h
    where
      go : (l : List Goal) → AtEnd l i v → ⊥
      go [] h = never (cc)
      go (g ∷ l) h = never (cc)
  ends_short i v r (x ∷ xs) p h = go (step book r x) h
    where
      go : (o : Replayed V) → EndsAt i v o → Overflows book known free o
      go (broken rule) h = never (cc)
      go (went m) (inl (l, h)) = l
      go (went m) (inr (n, (t, h))) = never (cc)

  -- and the other way round
  breaks_named : (rest : List Step) (r : Replay V) (i rule : ℕ) (v : Verdict) →
      BreaksNext book known free r rest rule →
      CheckFrom book known free r i rest v → v ≡ unlawful i rule
  breaks_named [] r i rule v (six, n) g = go r.pending refl g
    where
      go : (l : List Goal) → r.pending ≡ l → AtEnd l i v → v ≡ unlawful i rule
      go [] e h = absurd (n e)
      go (x ∷ l) e h = h ∙ ap (unlawful i) (sym six)
  breaks_named (x ∷ xs) r i rule v b g = go (step book r x) b (asks r x i xs v g)
    where
      bad : (m : Replay V) → m.cells ≤ free → free < m.cells → ⊥
      bad m a b = omega arith

      go : (o : Replayed V) → Breaks book known free o rule → Asks i xs v o → v ≡ unlawful i rule
      go (broken k) e h = h ∙ ap (unlawful i) (sym e)
      go (went m) (e, c, n) (inl (l, h)) = absurd (bad m c l)
      go (went m) (e, c, n) (inr (l, inl (t, h))) = absurd (n t)
      go (went m) (e, c, n) (inr (l, inr (t, h))) = h ∙ ap (unlawful i) (sym e)

  -- and so is a step that does not fit
  overflow_said : (rest : List Step) (r : Replay V) (i : ℕ) (v : Verdict) → OverflowsNext book known free r rest →
      CheckFrom book known free r i rest v → v ≡ no_cells
  overflow_said [] r i v b g = absurd b
  overflow_said (x ∷ xs) r i v b g = go (step book r x) b (asks r x i xs v g)
    where
      go : (o : Replayed V) → Overflows book known free o → Asks i xs v o → v ≡ no_cells
      go (broken k) b h = absurd b
      go (went m) b (inl (l, h)) = h
      go (went m) b (inr (n, h)) = absurd (n b)

  module _ (goals : List ℕ) (steps : List Step) (v : Verdict) (solvable : Solvable known)
      (g : Check book known free goals steps v) where
    -- where check ends
    stop : Stop (start goals) 0 steps v
    stop = stops steps (start goals) 0 v (omega arith) (started known goals solvable) g

    -- the steps before it are good
    good : (u : Stop (start goals) 0 steps v) → Good book known free goals u.before u.at
    good u = record { leads = u.leads; cells = u.cells; solvable = u.solvable }

    -- the three verdicts, each both ways
    to_fitting : v ≡ passed → Fitting book known free goals steps
    to_fitting p =
        let e : (stop.rest ≡ []) × (stop.at.pending ≡ []) =
        ends_passed (0 + length stop.before) v stop.at stop.rest p stop.ends in
        let whole : stop.before ≡ steps =
        sym (stop.whole ∙ (ap (λ l. stop.before ++ l) e.0 ∙ append-nil stop.before)) in
        let leads : Leads book (start goals) steps stop.at =
        subst (λ l. Leads book (start goals) l stop.at) whole stop.leads in (
          record { last = stop.at; leads = leads; done = e.1; solvable = stop.solvable },
          subst (λ r. r.cells ≤ free) (sym (leads_replay book (start goals) steps stop.at leads))
              stop.cells,
        )

    from_fitting : Fitting book known free goals steps → v ≡ passed
    from_fitting (l, c) =
        let low : l.last.cells ≤ free =
        subst (λ r. r.cells ≤ free) (leads_replay book (start goals) steps l.last l.leads) c in
        let g' : CheckFrom book known free (start goals) 0 (steps ++ []) v =
        subst (λ xs. CheckFrom book known free (start goals) 0 xs v) (sym (append-nil steps)) g in
        let here : AtEnd l.last.pending (0 + length steps) v =
        gets_past steps [] (start goals) l.last 0 v l.leads low l.solvable g' in
        subst (λ p. AtEnd p (0 + length steps) v) l.done here

    to_bad : (i rule : ℕ) → v ≡ unlawful i rule → FirstBad book known free goals steps i rule
    to_bad i rule p =
        let e : (0 + length stop.before ≡ i) × BreaksNext book known free stop.at stop.rest rule =
        ends_unlawful (0 + length stop.before) i rule v stop.at stop.rest p stop.ends in (
          record {
            before = stop.before;
            rest = stop.rest;
            whole = stop.whole;
            at = stop.at;
            good = good stop;
            next = e.1;
          },
          sym (zero-add (length stop.before)) ∙ e.0,
        )

    -- what check says from a good place on
    from_place : (before rest : List Step) (at : Replay V) → steps ≡ before ++ rest →
        Good book known free goals before at → CheckFrom book known free at (0 + length before) rest v
    from_place before rest at whole q =
        gets_past before rest (start goals) at 0 v q.leads q.cells q.solvable
        (subst (λ xs. CheckFrom book known free (start goals) 0 xs v) whole g)

    from_bad : (i rule : ℕ) → FirstBad book known free goals steps i rule → v ≡ unlawful i rule
    from_bad i rule (u, e) =
        breaks_named u.rest u.at (0 + length u.before) rule v u.next
        (from_place u.before u.rest u.at u.whole u.good)
        ∙ ap (λ k. unlawful k rule) (zero-add (length u.before) ∙ e)

    to_short : v ≡ no_cells → GoodUpTo book known free goals steps (OverflowsNext book known free)
    to_short p = record {
      before = stop.before;
      rest = stop.rest;
      whole = stop.whole;
      at = stop.at;
      good = good stop;
      next = ends_short (0 + length stop.before) v stop.at stop.rest p stop.ends;
    }

    from_short : GoodUpTo book known free goals steps (OverflowsNext book known free) → v ≡ no_cells
    from_short u =
        overflow_said u.rest u.at (0 + length u.before) v u.next
        (from_place u.before u.rest u.at u.whole u.good)

    -- the verdict of check on a slate that has a reading is exact
    pub exact : Exact book known free goals steps v
    exact = record {
      passes = (to_fitting, from_fitting);
      names = λ i rule. (to_bad i rule, from_bad i rule);
      lacks = (to_short, from_short);
    }
