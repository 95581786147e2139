-- A search that fails leaves no lawful record, of any length and whatever is accepted later.
use Rattle.std.proofs.Common.{◌≡◌, ℕ, ◌≢◌, ◌⊎◌, List, [], ◌∷◌, ◌++◌, sym, ap, ◌∙◌, subst, inl, inr}
use mathlib.Core.List.{cons≢nil}
use Rattle.std.specs.List.{AllByRecursion}
use Rattle.theory.specs.Equations.{Equation, Solvable}
use Rattle.theory.specs.Entries.{Entry}
use Rattle.theory.specs.Records.{Step, Replay, start, Leads, Lawful, together}
use Rattle.theory.specs.Search.{tries, Point, Limits, Outcome, granted, failed, spent, full, short, Searches}
use Rattle.theory.specs.Search.{Solve}
use Rattle.theory.specs.Search.{Stuck, May, without}
use Rattle.theory.specs.Search.{done, exhausted, back, out_of_tries, out_of_steps, out_of_cells, falls, stands}
use Rattle.theory.proofs.Steps.{took, went_inj}
use Rattle.theory.proofs.Tries.{In, tried}
use Rattle.theory.proofs.Replays.{Finishes, grows, earlier}

-- the search failed
abbrev IsFailed : Outcome → Type 0
IsFailed (granted n s) = ⊥
IsFailed (failed n) = Unit {0}
IsFailed (spent n) = ⊥
IsFailed (full n) = ⊥
IsFailed (short n) = ⊥

module _ {V : Type 0} (book : List (Entry V)) (known more : List (Equation V ℕ)) (lim : Limits) where
  -- no try that is left begins a lawful end, by what is known later
  abbrev Dead : Point V → Type 0
  Dead p = (x : Step) (xs : List Step) → In x p.left → Finishes book (known ++ more) p.at (x ∷ xs) → ⊥

  -- a search that fails does not begin at its end
  pending : {p : Point V} {below : List (Point V)} {n : ℕ} {o : Outcome} → Searches book known lim p below n o →
      IsFailed o → (p.at.pending ≡ [] → p.left ≡ []) → p.at.pending ≢ []
  pending (done e) b i q = absurd b
  pending (exhausted s) b i q = s.goal q
  pending (back s t) b i q = s.goal q
  pending (out_of_tries x xs l e) b i q = absurd b
  pending (out_of_steps x xs l e f) b i q = absurd b
  pending (out_of_cells x xs r l e f s c) b i q = absurd b
  pending (falls x xs r m u t) b i q = cons≢nil (sym m.next ∙ i q)
  pending (stands x xs r m u t) b i q = cons≢nil (sym m.next ∙ i q)

  -- a point with no try left is dead
  none_left : {p : Point V} → Stuck p → Dead p
  none_left s x xs i f = subst (In x) s.none i

  -- where nothing is pending there is no try
  no_tries : (r : Replay V) → r.pending ≡ [] → tries book r.pending ≡ []
  no_tries r q = ap (tries book) q

  -- a point is dead when its first try begins no such steps and the point without it is dead
  both_dead : (p : Point V) (x : Step) (xs : List Step) → p.left ≡ x ∷ xs →
      ((ys : List Step) → Finishes book (known ++ more) p.at (x ∷ ys) → ⊥) → Dead (without p xs) → Dead p
  both_dead p x xs l a b y ys i f = go (subst (In y) l i)
    where
      go : (y ≡ x) ⊎ In y xs → ⊥
      go (inl e) = a ys (subst (λ z. Finishes book (known ++ more) p.at (z ∷ ys)) e f)
      go (inr j) = b y ys j f

  -- a try that fell begins none, since its equations have no reading
  fallen : (p : Point V) (n : ℕ) (x : Step) (xs : List Step) (r : Replay V) → May book known lim p n x xs r →
      ¬ Solvable (together known r) → (ys : List Step) → Finishes book (known ++ more) p.at (x ∷ ys) → ⊥
  fallen p n x xs r m u ys (t, (q, s, l), d, v) =
      let l' : Leads book r ys t = subst (λ z. Leads book z ys t) (went_inj (sym s ∙ m.after)) l in
      u (earlier known more r t (grows book r ys t l') v)

  -- a try that stood begins none if the point after it is dead
  stood : (p : Point V) (n : ℕ) (x : Step) (xs : List Step) (r : Replay V) → May book known lim p n x xs r →
      r.pending ≢ [] → ((y : Step) (ys : List Step) → In y (tries book r.pending) →
      Finishes book (known ++ more) r (y ∷ ys) → ⊥) →
      (ys : List Step) → Finishes book (known ++ more) p.at (x ∷ ys) → ⊥
  stood p n x xs r m a dead ys (t, (q, s, l), d, v) =
      go ys (subst (λ z. Leads book z ys t) (went_inj (sym s ∙ m.after)) l)
    where
      go : (zs : List Step) → Leads book r zs t → ⊥
      go [] e = a (ap (λ w. w.pending) e ∙ d)
      go (z ∷ zs) (q, s, l) = dead z zs (tried book r z q (took book r z q s)) (t, (q, s, l), d, v)

  -- where a search fails, its point and those below it are dead
  dead : {p : Point V} {below : List (Point V)} {n : ℕ} {o : Outcome} → Searches book known lim p below n o →
      IsFailed o → Dead p × AllByRecursion Dead below
  dead (done e) b = absurd b
  dead (exhausted s) b = (none_left s, tt)
  dead (back s t) b = (none_left s, dead t b)
  dead (out_of_tries x xs l e) b = absurd b
  dead (out_of_steps x xs l e f) b = absurd b
  dead (out_of_cells x xs r l e f s c) b = absurd b
  dead (falls {p = p} {n = n} x xs r m u t) b =
      (both_dead p x xs m.next (fallen p n x xs r m u) (dead t b).0, (dead t b).1)
  dead (stands {p = p} {n = n} x xs r m u t) b =
      let after : (ys : List Step) → Finishes book (known ++ more) p.at (x ∷ ys) → ⊥ =
      stood p n x xs r m (pending t b (no_tries r)) (dead t b).0 in
      (both_dead p x xs m.next after (dead t b).1.0, (dead t b).1.1)

  -- a search that fails leaves no lawful record
  pub failed_none : (goals : List ℕ) (n : ℕ) → Solve book known lim goals (failed n) →
      (steps : List Step) → Lawful book (known ++ more) goals steps → ⊥
  failed_none goals n s [] w = pending s tt (no_tries (start goals)) (ap (λ w. w.pending) w.leads ∙ w.done)
  failed_none goals n s (x ∷ xs) w =
      let r : Replay V = start goals in
      (dead s tt).0 x xs (tried book r x w.leads.0 (took book r x w.leads.0 w.leads.1))
      (w.last, w.leads, w.done, w.solvable)
