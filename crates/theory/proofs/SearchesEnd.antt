-- Where solvability is decided, every search comes to an outcome and every check to a verdict.
use Rattle.std.proofs.Common.{◌≡◌, ℕ, zero, suc, ◌+◌, ◌<◌, ◌≤◌, ◌≢◌, ◌⊎◌, List, [], ◌∷◌, length, sym, refl, ◌∙◌, subst, inl, inr, add-zero, add-suc, suc-add, arith}
use mathlib.Core.List.{cons≢nil}
use Rattle.std.specs.List.{AllByRecursion}
use Rattle.std.proofs.lemmas.Bool.{cases_lt}
use Rattle.theory.specs.Equations.{Equation, Solvable}
use Rattle.theory.specs.Entries.{Entry}
use Rattle.theory.specs.Records.{Step, Term, Goal, Replay, Replayed, broken, went, start, step, together}
use Rattle.theory.specs.Search.{tries, Point, Limits, Outcome, granted, failed, spent, full, short, Searches}
use Rattle.theory.specs.Search.{Solve, without, onward}
use Rattle.theory.specs.Search.{done, exhausted, back, out_of_tries, out_of_steps, out_of_cells, falls, stands}
use Rattle.theory.specs.Check.{If, Verdict, passed, unlawful, no_cells, AtEnd, CheckFrom}
use Rattle.theory.specs.Answers.{Decided}
use Rattle.theory.proofs.Tries.{In, Allowed, allowed}

-- what holds of every step in a list holds of each
all_in : (P : Step → Type 0) (l : List Step) → ((x : Step) → In x l → P x) → AllByRecursion P l
all_in P [] h = tt
all_in P (y ∷ l) h = (h y (inl refl), all_in P l (λ x i. h x (inr i)))

-- what is at least is not below
not_below : (a b : ℕ) → b ≤ a → a < b → ⊥
not_below a b h q = omega arith

module _ {V : Type 0} (decide : (es : List (Equation V Term)) → Decided (Solvable es)) (book : List (Entry V))
    (known : List (Equation V ℕ)) where
  module _ (lim : Limits) where
    -- the tries left of a point are steps that the rules allow
    abbrev Ready : Point V → Type 0
    Ready p = AllByRecursion (Allowed book p.at) p.left

    -- the search from here comes to an outcome
    abbrev Ends : Point V → List (Point V) → ℕ → Type 0
    Ends p below n = (o : Outcome) × Searches book known lim p below n o

    -- the tries of a new point are so
    ready : (r : Replay V) → AllByRecursion (Allowed book r) (tries book r.pending)
    ready r = all_in (Allowed book r) (tries book r.pending) (allowed book r)

    -- the search at a point, given how it goes on from a try and from the point below
    module _ (n : ℕ) (p : Point V) (below : List (Point V))
        (try : (x : Step) (xs : List Step) → p.left ≡ x ∷ xs → Ends p below n)
        (next : (q : Point V) (qs : List (Point V)) → below ≡ q ∷ qs → Ends q qs n) where
      -- nothing is pending, or a try is left, or a step is taken back
      at_point : Ends p below n
      at_point = goals p.at.pending refl
        where
          under : (g : Goal) (rest : List Goal) → p.at.pending ≡ g ∷ rest → p.left ≡ [] →
              (l : List (Point V)) → below ≡ l → Ends p below n
          under g rest e none [] b = (
            failed n,
            subst (λ l. Searches book known lim p l n (failed n)) (sym b)
                (exhausted (record { goal = λ q. cons≢nil (sym e ∙ q); none = none })),
          )
          under g rest e none (q ∷ qs) b =
              let w : Ends q qs n = next q qs b in (
                w.0,
                subst (λ l. Searches book known lim p l n w.0) (sym b)
                    (back (record { goal = λ q. cons≢nil (sym e ∙ q); none = none }) w.1),
              )

          lefts : (g : Goal) (rest : List Goal) → p.at.pending ≡ g ∷ rest → (l : List Step) → p.left ≡ l →
              Ends p below n
          lefts g rest e [] none = under g rest e none below refl
          lefts g rest e (x ∷ xs) l = try x xs l

          goals : (l : List Goal) → p.at.pending ≡ l → Ends p below n
          goals [] e = (granted n p.steps, done e)
          goals (g ∷ rest) e = lefts g rest e p.left refl

    -- the budget is spent
    spent_here : (n : ℕ) → n ≡ lim.budget → (below : List (Point V)) (p : Point V) → Ends p below n
    spent_here n e [] p =
        at_point n p [] (λ x xs l. (spent n, out_of_tries x xs l e)) (λ q qs b. absurd (cons≢nil (sym b)))
    spent_here n e (q ∷ qs) p =
        at_point n p (q ∷ qs) (λ x xs l. (spent n, out_of_tries x xs l e))
        (λ q' qs' b. subst (λ l. Below l) b (spent_here n e qs q))
      where
        Below : List (Point V) → Type 0
        Below = elim [ [] ↦ Unit {0} | r ∷ rs ↦ Ends r rs n ]

    -- one more try may be made
    module _ (n : ℕ) (more : n ≢ lim.budget)
        (later : (p : Point V) (below : List (Point V)) → Ready p → AllByRecursion Ready below → Ends p below (suc n)) where
      make : (p : Point V) (below : List (Point V)) → AllByRecursion Ready below → (x : Step) (xs : List Step) →
          p.left ≡ x ∷ xs → Ready p → Ends p below n
      make p below rs x xs l r = room (cases_lt (length p.steps) lim.room)
        where
          here : Allowed book p.at x × AllByRecursion (Allowed book p.at) xs
          here = subst (AllByRecursion (Allowed book p.at)) l r

          after : step book p.at x ≡ went here.0.0
          after = here.0.1

          stand : length p.steps < lim.room → here.0.0.cells ≤ lim.free →
              Decided (Solvable (together known here.0.0)) → Ends p below n
          stand a c (inl s) =
              let w : Ends (onward book p x here.0.0) (without p xs ∷ below) (suc n) =
              later (onward book p x here.0.0) (without p xs ∷ below) (ready here.0.0) (here.1, rs) in (
                w.0,
                stands x xs here.0.0 (record { next = l; after = after; budget = more; room = a; cells = c }) s
                    w.1,
              )
          stand a c (inr s) =
              let w : Ends (without p xs) below (suc n) = later (without p xs) below here.1 rs in (
                w.0,
                falls x xs here.0.0 (record { next = l; after = after; budget = more; room = a; cells = c }) s
                    w.1,
              )

          cells : length p.steps < lim.room →
              (lim.free < here.0.0.cells) ⊎ (here.0.0.cells ≤ lim.free) → Ends p below n
          cells a (inl c) = (short n, out_of_cells x xs here.0.0 l more a after c)
          cells a (inr c) = stand a c (decide (together known here.0.0))

          room : (length p.steps < lim.room) ⊎ (lim.room ≤ length p.steps) → Ends p below n
          room (inl a) = cells a (cases_lt lim.free here.0.0.cells)
          room (inr a) = (full n, out_of_steps x xs l more a)

      tries_here : (below : List (Point V)) (p : Point V) → Ready p → AllByRecursion Ready below → Ends p below n
      tries_here [] p r rs =
          at_point n p [] (λ x xs l. make p [] rs x xs l r) (λ q qs b. absurd (cons≢nil (sym b)))
      tries_here (q ∷ qs) p r rs =
          at_point n p (q ∷ qs) (λ x xs l. make p (q ∷ qs) rs x xs l r)
          (λ q' qs' b. subst (λ l. Below l) b (tries_here qs q rs.0 rs.1))
        where
          Below : List (Point V) → Type 0
          Below = elim [ [] ↦ Unit {0} | r ∷ rs ↦ Ends r rs n ]

    -- so the search ends, whatever number of tries is left
    ends : (t n : ℕ) → n + t ≡ lim.budget → (p : Point V) (below : List (Point V)) → Ready p → AllByRecursion Ready below →
        Ends p below n
    ends zero n e p below r rs = spent_here n (sym (add-zero n) ∙ e) below p
    ends (suc t) n e p below r rs =
        tries_here n (λ q. not_spent q)
        (λ p below. ends t (suc n) ((suc-add n t ∙ sym (add-suc n t)) ∙ e) p below) below p r rs
      where
        not_spent : n ≡ lim.budget → ⊥
        not_spent q = omega arith

    -- every search comes to an outcome
    pub search_ends : (goals : List ℕ) → (o : Outcome) × Solve book known lim goals o
    search_ends goals =
        ends lim.budget 0 (omega arith)
        (record { at = start goals; steps = []; left = tries book (start {V = V} goals).pending }) []
        (ready (start goals)) tt

  -- every check comes to a verdict
  pub check_ends : (free : ℕ) (xs : List Step) (r : Replay V) (i : ℕ) →
      (v : Verdict) × CheckFrom book known free r i xs v
  check_ends free [] r i = go r.pending
    where
      go : (l : List Goal) → (v : Verdict) × AtEnd l i v
      go [] = (passed, refl)
      go (g ∷ l) = (unlawful i 6, refl)
  check_ends free (x ∷ xs) r i = go (step book r x) (λ m. check_ends free xs m (suc i))
    where
      At : Verdict → Replayed V → Type 0
      At v =
          elim [
            | broken rule ↦ v ≡ unlawful i rule
            | went m ↦
                If (free < m.cells)
                (v ≡ no_cells)
                (If (Solvable (together known m)) (CheckFrom book known free m (suc i) xs v) (v ≡ unlawful i 7))
          ]

      solved : (m : Replay V) → m.cells ≤ free → Decided (Solvable (together known m)) →
          ((v : Verdict) × CheckFrom book known free m (suc i) xs v) → (v : Verdict) × At v (went m)
      solved m c (inl s) (v, h) = (v, inr (not_below free m.cells c, inl (s, h)))
      solved m c (inr s) (v, h) = (unlawful i 7, inr (not_below free m.cells c, inr (s, refl)))

      fits : (m : Replay V) → (free < m.cells) ⊎ (m.cells ≤ free) →
          ((v : Verdict) × CheckFrom book known free m (suc i) xs v) → (v : Verdict) × At v (went m)
      fits m (inl c) later = (no_cells, inl (c, refl))
      fits m (inr c) later = solved m c (decide (together known m)) later

      go : (o : Replayed V) → ((m : Replay V) → (v : Verdict) × CheckFrom book known free m (suc i) xs v) →
          (v : Verdict) × At v o
      go (broken rule) later = (unlawful i rule, refl)
      go (went m) later = fits m (cases_lt free m.cells) (later m)
