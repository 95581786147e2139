-- A search that grants has found the first lawful record, in the order of the tries.
use Rattle.std.proofs.Common.{◌≡◌, ℕ, suc, ◌+◌, ◌≢◌, ◌⊎◌, List, [], ◌∷◌, ◌++◌, length, sym, refl, ap, ◌∙◌, subst, inl, inr, append_assoc, append-nil, suc-add, zero-add, arith}
use Rattle.std.specs.List.{slice_get, AllByRecursion}
use Rattle.std.proofs.ByRecursion.{All-push}
use Rattle.theory.specs.Equations.{Equation, Solvable}
use Rattle.theory.specs.Entries.{Entry}
use Rattle.theory.specs.Records.{Step, Replay, went, start, step, Leads, Lawful, together}
use Rattle.theory.specs.Search.{tries, Among, Earlier, NoLater, Point, Limits, Outcome, granted, failed, spent}
use Rattle.theory.specs.Search.{full, short, Searches, Solve, May, Stuck, without}
use Rattle.theory.specs.Search.{done, exhausted, back, out_of_tries, out_of_steps, out_of_cells, falls, stands}
use Rattle.theory.proofs.Steps.{took, went_inj}
use Rattle.theory.proofs.Tries.{In, in_among, in_either, tried}
use Rattle.theory.proofs.Replays.{Finishes, grows, earlier_same}

-- places in a joined list
nth_right : (a b : List Step) (k : ℕ) → slice_get (a ++ b) (length a + k) ≡ slice_get b k
nth_right [] b k = ap (slice_get b) (zero-add k)
nth_right (x ∷ a) b k = ap (slice_get (x ∷ (a ++ b))) (suc-add (length a) k) ∙ nth_right a b k

-- what holds of each step holds of one in the list
all_of : (P : Step → Type 0) (l : List Step) → AllByRecursion P l → (x : Step) → In x l → P x
all_of P [] a x i = absurd i
all_of P (y ∷ l) a x (inl e) = subst P (sym e) a.0
all_of P (y ∷ l) a x (inr i) = all_of P l a.1 x i

module _ {V : Type 0} (book : List (Entry V)) (known : List (Equation V ℕ)) (lim : Limits) (goals : List ℕ) where
  -- the step begins no lawful end
  abbrev Dead : Replay V → Step → Type 0
  Dead r x = (xs : List Step) → Finishes book known r (x ∷ xs) → ⊥

  -- the tries of a point before those left are dead
  record Top (p : Point V) : Type 0 where
    before : List Step
    whole : tries book p.at.pending ≡ before ++ p.left
    dead : AllByRecursion (Dead p.at) before

  -- a point, the step taken there, and the point after it
  record Link (q p : Point V) : Type 0 where
    taken : Step
    before : List Step
    whole : tries book q.at.pending ≡ before ++ (taken ∷ q.left)
    dead : AllByRecursion (Dead q.at) before
    after : step book q.at taken ≡ went p.at
    steps : p.steps ≡ q.steps ++ (taken ∷ [])

  -- the points below lead from the start to the point
  abbrev Chain : List (Point V) → Point V → Type 0
  Chain [] p = (p.at ≡ start goals) × (p.steps ≡ [])
  Chain (q ∷ qs) p = Link q p × Chain qs q

  -- fewer tries left make no difference to it
  fewer_left : (below : List (Point V)) (p : Point V) (xs : List Step) → Chain below p → Chain below (without p xs)
  fewer_left [] p xs c = c
  fewer_left (q ∷ qs) p xs (k, c) = (
    record {
      taken = k.taken;
      before = k.before;
      whole = k.whole;
      dead = k.dead;
      after = k.after;
      steps = k.steps;
    },
    c,
  )

  -- where nothing is pending no step goes on
  no_step : (r : Replay V) (x : Step) (m : Replay V) → step book r x ≡ went m → r.pending ≢ []
  no_step r x m s e = subst (λ l. In x (tries book l)) e (tried book r x m (took book r x m s))

  -- at its end a lawful record has no more steps
  ends_here : (r : Replay V) → r.pending ≡ [] → (xs : List Step) → Finishes book known r xs → NoLater book r [] xs
  ends_here r e [] f = tt
  ends_here r e (x ∷ xs) (t, (m, s, l), d, v) = absurd (no_step r x m s e)

  -- at a point below, the step taken there is the first that is not dead
  module _ (q p : Point V) (k : Link q p) (ys : List Step)
      (above : (xs : List Step) → Finishes book known p.at xs → NoLater book p.at ys xs) where
    -- a try that is left stands later
    earlier : (z : Step) → In z q.left → Earlier k.taken z (tries book q.at.pending)
    earlier z i =
        let w : Among z q.left = in_among z q.left i in
        let n : ℕ = length k.before in (
          n + 0,
          n + suc w.0,
          omega arith,
          ap (λ l. slice_get l (n + 0)) k.whole ∙ nth_right k.before (k.taken ∷ q.left) 0,
          ap (λ l. slice_get l (n + suc w.0)) k.whole
              ∙ (nth_right k.before (k.taken ∷ q.left) (suc w.0) ∙ w.1),
        )

    -- so the granted steps come no later than others from here
    at_link : (zs : List Step) → Finishes book known q.at zs → NoLater book q.at (k.taken ∷ ys) zs
    at_link [] (t, l, d, v) = no_step q.at k.taken p.at k.after (ap (λ r. r.pending) l ∙ d)
    at_link (z ∷ zs) (t, (m, s, l), d, v) =
        which (in_either z k.before (k.taken ∷ q.left)
        (subst (In z) k.whole (tried book q.at z m (took book q.at z m s))))
      where
        same : z ≡ k.taken → NoLater book q.at (k.taken ∷ ys) (z ∷ zs)
        same e =
            let here : m ≡ p.at = went_inj (sym s ∙ (ap (step book q.at) e ∙ k.after)) in
            inr (sym e, (p.at, k.after, above zs (t, subst (λ r. Leads book r zs t) here l, d, v)))

        next : (z ≡ k.taken) ⊎ In z q.left → NoLater book q.at (k.taken ∷ ys) (z ∷ zs)
        next (inl e) = same e
        next (inr i) = inl (earlier z i)

        which : In z k.before ⊎ In z (k.taken ∷ q.left) → NoLater book q.at (k.taken ∷ ys) (z ∷ zs)
        which (inl i) = absurd (all_of (Dead q.at) k.before k.dead z i zs (t, (m, s, l), d, v))
        which (inr i) = next i

  -- so from the start
  from_start : (below : List (Point V)) (p : Point V) → Chain below p → (ys : List Step) →
      ((xs : List Step) → Finishes book known p.at xs → NoLater book p.at ys xs) →
      (xs : List Step) → Finishes book known (start goals) xs → NoLater book (start goals) (p.steps ++ ys) xs
  from_start [] p (e, z) ys above xs f =
      subst (λ l. NoLater book (start goals) (l ++ ys) xs) (sym z)
      (subst (λ r. (xs : List Step) → Finishes book known r xs → NoLater book r ys xs) e above xs f)
  from_start (q ∷ qs) p (k, c) ys above xs f =
      subst (λ l. NoLater book (start goals) l xs)
      (sym (append_assoc q.steps (k.taken ∷ []) ys) ∙ ap (λ l. l ++ ys) (sym k.steps))
      (from_start qs q c (k.taken ∷ ys) (at_link q p k ys above) xs f)

  -- a try that fell is dead
  fallen : (p : Point V) (n : ℕ) (x : Step) (xs : List Step) (r : Replay V) → May book known lim p n x xs r →
      ¬ Solvable (together known r) → Dead p.at x
  fallen p n x xs r m u ys (t, (q, s, l), d, v) =
      let l' : Leads book r ys t = subst (λ z. Leads book z ys t) (went_inj (sym s ∙ m.after)) l in
      u (earlier_same known r t (grows book r ys t l') v)

  -- and so is a step after which a point is stuck
  stuck : (q p : Point V) (k : Link q p) → Stuck p → Top p → Dead q.at k.taken
  stuck q p k s top xs (t, (m, e, l), d, v) =
      go xs (subst (λ r. Leads book r xs t) (went_inj (sym e ∙ k.after)) l)
    where
      all : tries book p.at.pending ≡ top.before
      all = top.whole ∙ (ap (λ l. top.before ++ l) s.none ∙ append-nil top.before)

      go : (ys : List Step) → Leads book p.at ys t → ⊥
      go [] l = s.goal (ap (λ r. r.pending) l ∙ d)
      go (y ∷ ys) (n, f, l) =
          all_of (Dead p.at) top.before top.dead y
          (subst (In y) all (tried book p.at y n (took book p.at y n f))) ys (t, (n, f, l), d, v)

  -- one more try is dead
  one_dead : (p : Point V) (x : Step) (xs before : List Step) →
      tries book p.at.pending ≡ before ++ (x ∷ xs) → AllByRecursion (Dead p.at) before → Dead p.at x →
      Top (without p xs)
  one_dead p x xs before whole dead here = record {
    before = before ++ (x ∷ []);
    whole = whole ∙ sym (append_assoc before (x ∷ []) xs);
    dead = All-push (Dead p.at) before x dead here;
  }

  -- what the outcome says
  abbrev Says : Outcome → Type 0
  Says (granted n steps) =
      (xs : List Step) → Finishes book known (start goals) xs → NoLater book (start goals) steps xs
  Says (failed n) = Unit {0}
  Says (spent n) = Unit {0}
  Says (full n) = Unit {0}
  Says (short n) = Unit {0}

  -- what is dead stays so, from point to point
  says : {p : Point V} {below : List (Point V)} {n : ℕ} {o : Outcome} → Searches book known lim p below n o →
      Top p → Chain below p → Says o
  says (done {p = p} {below = below} e) top c =
      λ xs f.
      subst (λ l. NoLater book (start goals) l xs) (append-nil p.steps)
      (from_start below p c [] (ends_here p.at e) xs f)
  says (exhausted s) top c = tt
  says (back {p = p} {q = q} s t) top (k, c) =
      says t (one_dead q k.taken q.left k.before k.whole k.dead (stuck q p k s top)) c
  says (out_of_tries x xs l e) top c = tt
  says (out_of_steps x xs l e f) top c = tt
  says (out_of_cells x xs r l e f s d) top c = tt
  says (falls {p = p} {below = below} {n = n} x xs r m u t) top c =
      says t
      (one_dead p x xs top.before (top.whole ∙ ap (λ l. top.before ++ l) m.next) top.dead
      (fallen p n x xs r m u))
      (fewer_left below p xs c)
  says (stands {p = p} {below = below} x xs r m u t) top c =
      says t (record { before = []; whole = refl; dead = tt }) (
        record {
          taken = x;
          before = top.before;
          whole = top.whole ∙ ap (λ l. top.before ++ l) m.next;
          dead = top.dead;
          after = m.after;
          steps = refl;
        },
        fewer_left below p xs c,
      )

  -- a granted record comes no later than any lawful one
  pub granted_first : (n : ℕ) (steps : List Step) → Solve book known lim goals (granted n steps) →
      (xs : List Step) → Lawful book known goals xs → NoLater book (start goals) steps xs
  granted_first n steps t xs l =
      says t (record { before = []; whole = refl; dead = tt }) (refl, refl) xs
      (l.last, l.leads, l.done, l.solvable)
