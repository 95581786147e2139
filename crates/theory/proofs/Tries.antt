-- The tries of a goal are the steps that the rules allow there.
use Rattle.std.proofs.Common.{◌≡◌, ℕ, zero, suc, ◌+◌, Bool, true, false, eqb, ◌⊎◌, ◌↔◌, List, [], ◌∷◌, ◌++◌, map, Some, sym, refl, ap, ◌∙◌, subst, inl, inr, add-zero, add-suc, suc-add, zero-add}
use Rattle.std.specs.List.{slice_get}
use Rattle.std.proofs.lemmas.Bool.{false≢true, eqb-true, eq-eqb}
use Rattle.theory.specs.Entries.{Entry, Kind, clause, cofact}
use Rattle.theory.specs.Records.{Step, step_of, Goal, Replay, went, step, expand, close, member}
use Rattle.theory.specs.Search.{tries, tries_of, clauses_from, entries_from, Among}
use Rattle.theory.proofs.Elements.{none_some, some_inj}
use Rattle.theory.proofs.Steps.{Took, clause_step, loop_step, entry_step, took, goes}

-- the step stands in the list, by recursion on the list
abbrev pub In : Step → List Step → Type 0
In x [] = ⊥
In x (y ∷ ys) = (x ≡ y) ⊎ In x ys

-- the step at a place is in the list
among_in : (x : Step) (xs : List Step) (k : ℕ) → slice_get xs k ≡ Some x → In x xs
among_in x [] k q = absurd (none_some q)
among_in x (y ∷ ys) zero q = inl (sym (some_inj q))
among_in x (y ∷ ys) (suc k) q = inr (among_in x ys k q)

-- its place
pub in_among : (x : Step) (xs : List Step) → In x xs → Among x xs
in_among x [] i = absurd i
in_among x (y ∷ ys) (inl e) = (0, ap Some (sym e))
in_among x (y ∷ ys) (inr i) = let w : Among x ys = in_among x ys i in (suc w.0, w.1)

-- joined lists
in_left : (x : Step) (l k : List Step) → In x l → In x (l ++ k)
in_left x [] k i = absurd i
in_left x (y ∷ l) k (inl e) = inl e
in_left x (y ∷ l) k (inr i) = inr (in_left x l k i)

-- the second of them
in_right : (x : Step) (l k : List Step) → In x k → In x (l ++ k)
in_right x [] k i = i
in_right x (y ∷ l) k i = inr (in_right x l k i)

-- one of them
pub in_either : (x : Step) (l k : List Step) → In x (l ++ k) → In x l ⊎ In x k
in_either x [] k i = inr i
in_either x (y ∷ l) k (inl e) = inl (inl e)
in_either x (y ∷ l) k (inr i) = go (in_either x l k i)
  where
    go : In x l ⊎ In x k → In x (y ∷ l) ⊎ In x k
    go (inl a) = inl (inr a)
    go (inr b) = inr b

-- the steps on a path
in_path : (n : ℕ) (path : List ℕ) → member n path ≡ true → In (step_of 2 n) (map (step_of 2) path)
in_path n [] f = absurd (false≢true f)
in_path n (y ∷ ys) f = go (eqb n y) refl f (in_path n ys)
  where
    go : (b : Bool) → eqb n y ≡ b → Path Bool (elim b [ true ↦ true | false ↦ member n ys ]) true →
        (member n ys ≡ true → In (step_of 2 n) (map (step_of 2) ys)) → In (step_of 2 n) (map (step_of 2) (y ∷ ys))
    go true q f later = inl (ap (step_of 2) (eqb-true n y q))
    go false q f later = inr (later f)

-- a step of mode 2 whose number is on the path
abbrev OnPath : Step → List ℕ → Type 0
OnPath x path = (n : ℕ) × (x ≡ step_of 2 n) × (member n path ≡ true)

-- and only they
path_in : (x : Step) (path : List ℕ) → In x (map (step_of 2) path) → OnPath x path
path_in x [] i = absurd i
path_in x (y ∷ ys) (inl e) =
    (y, e, ap (λ b. elim b as (λ _. Bool) [ true ↦ true | false ↦ member y ys ]) (eq-eqb y y refl))
path_in x (y ∷ ys) (inr i) =
    let w : OnPath x ys = path_in x ys i in (w.0, w.1, later w.0 (eqb w.0 y) w.2)
  where
    later : (n : ℕ) (b : Bool) → member n ys ≡ true → Path Bool (elim b [ true ↦ true | false ↦ member n ys ]) true
    later n true h = refl
    later n false h = h

-- the kind is that of clauses
abbrev IsClause : Kind → Type 0
IsClause clause = Unit {0}
IsClause cofact = ⊥

module _ {V : Type 0} where
  -- all entries, numbered from j on
  in_entries : (j n : ℕ) (l : List (Entry V)) (e : Entry V) → slice_get l n ≡ Some e →
      In (step_of 3 (j + n)) (entries_from j l)
  in_entries j n [] e f = absurd (none_some f)
  in_entries j zero (x ∷ l) e f = inl (ap (step_of 3) (add-zero j))
  in_entries j (suc n) (x ∷ l) e f =
      inr (subst (λ k. In (step_of 3 k) (entries_from (suc j) l)) (suc-add j n ∙ sym (add-suc j n))
      (in_entries (suc j) n l e f))

  -- a step of mode 3 that names an entry
  abbrev NamesEntry : Step → ℕ → List (Entry V) → Type 0
  NamesEntry x j l = (n : ℕ) × (e : Entry V) × (x ≡ step_of 3 (j + n)) × (slice_get l n ≡ Some e)

  -- and only they
  entries_in : (x : Step) (j : ℕ) (l : List (Entry V)) → In x (entries_from j l) → NamesEntry x j l
  entries_in x j [] i = absurd i
  entries_in x j (y ∷ l) (inl e) = (0, y, e ∙ ap (step_of 3) (sym (add-zero j)), refl)
  entries_in x j (y ∷ l) (inr i) =
      let w : NamesEntry x (suc j) l = entries_in x (suc j) l i in
      (suc w.0, w.1, w.2 ∙ ap (step_of 3) (suc-add j w.0 ∙ sym (add-suc j w.0)), w.3)

  -- the clauses, numbered from j on
  abbrev from : ℕ → Kind → List (Entry V) → List Step
  from j k l = elim k [ clause ↦ step_of 1 j ∷ clauses_from (suc j) l | cofact ↦ clauses_from (suc j) l ]

  -- the first entry, where it is a clause
  this_clause : (j : ℕ) (k : Kind) (l : List (Entry V)) → k ≡ clause → In (step_of 1 j) (from j k l)
  this_clause j clause l c = inl refl
  this_clause j cofact l c = absurd (subst IsClause (sym c) tt)

  -- a later one
  later_clause : (y : Step) (j : ℕ) (k : Kind) (l : List (Entry V)) → In y (clauses_from (suc j) l) →
      In y (from j k l)
  later_clause y j clause l i = inr i
  later_clause y j cofact l i = i

  -- any of them
  in_clauses : (j n : ℕ) (l : List (Entry V)) (e : Entry V) → slice_get l n ≡ Some e → e.kind ≡ clause →
      In (step_of 1 (j + n)) (clauses_from j l)
  in_clauses j n [] e f c = absurd (none_some f)
  in_clauses j zero (x ∷ l) e f c =
      subst (λ k. In (step_of 1 k) (clauses_from j (x ∷ l))) (sym (add-zero j))
      (this_clause j x.kind l (ap (λ y. y.kind) (some_inj f) ∙ c))
  in_clauses j (suc n) (x ∷ l) e f c =
      later_clause (step_of 1 (j + suc n)) j x.kind l
      (subst (λ k. In (step_of 1 k) (clauses_from (suc j) l)) (suc-add j n ∙ sym (add-suc j n))
      (in_clauses (suc j) n l e f c))

  -- a step of mode 1 that names a clause
  abbrev NamesClause : Step → ℕ → List (Entry V) → Type 0
  NamesClause x j l = (n : ℕ) × (e : Entry V) × (x ≡ step_of 1 (j + n)) × (slice_get l n ≡ Some e) × (e.kind ≡ clause)

  -- and only they
  clauses_in : (x : Step) (j : ℕ) (l : List (Entry V)) → In x (clauses_from j l) → NamesClause x j l
  clauses_in x j [] i = absurd i
  clauses_in x j (y ∷ l) i = go y.kind refl i (clauses_in x (suc j) l)
    where
      one_more : NamesClause x (suc j) l → NamesClause x j (y ∷ l)
      one_more w = (
        suc w.0,
        w.1,
        w.2 ∙ ap (step_of 1)
            (suc-add j w.0 ∙ sym (add-suc j w.0)),
        w.3,
        w.4,
      )

      go : (k : Kind) → y.kind ≡ k → In x (from j k l) →
          (In x (clauses_from (suc j) l) → NamesClause x (suc j) l) →
          NamesClause x j (y ∷ l)
      go clause c (inl e) rest = (0, y, e ∙ ap (step_of 1) (sym (add-zero j)), refl, c)
      go clause c (inr i) rest = one_more (rest i)
      go cofact c i rest = one_more (rest i)

module _ {V : Type 0} (book : List (Entry V)) where
  -- the tries of a goal, by whether it is inner
  tries_as : (g : Goal) (b : Bool) → g.inner ≡ b → (x : Step) →
      In x (tries_of book b g.path) → In x (tries_of book g.inner g.path)
  tries_as g b i x t = subst (λ b. In x (tries_of book b g.path)) (sym i) t

  -- every step that goes on is among the tries
  pub tried : (r : Replay V) (x : Step) (m : Replay V) → Took book r x m → In x (tries book r.pending)
  tried r x m (clause_step g rest n e p i f c) =
      subst (λ l. In (step_of 1 n) (tries book l)) (sym p)
      (tries_as g false i (step_of 1 n) (in_right (step_of 1 n) (map (step_of 2) g.path) (clauses_from 0 book)
      (subst (λ k. In (step_of 1 k) (clauses_from 0 book)) (zero-add n) (in_clauses 0 n book e f c))))
  tried r x m (loop_step g rest n p i f) =
      subst (λ l. In (step_of 2 n) (tries book l)) (sym p)
      (tries_as g false i (step_of 2 n)
      (in_left (step_of 2 n) (map (step_of 2) g.path) (clauses_from 0 book) (in_path n g.path f)))
  tried r x m (entry_step g rest n e p i f) =
      subst (λ l. In (step_of 3 n) (tries book l)) (sym p)
      (tries_as g true i (step_of 3 n)
      (subst (λ k. In (step_of 3 k) (entries_from 0 book)) (zero-add n) (in_entries 0 n book e f)))

  -- the rules allow the step
  abbrev pub Allowed : Replay V → Step → Type 0
  Allowed r x = (m : Replay V) × (step book r x ≡ went m)

  -- every try goes on
  pub allowed : (r : Replay V) (x : Step) → In x (tries book r.pending) → Allowed r x
  allowed r x i = first r.pending refl i
    where
      by : (m : Replay V) (y : Step) → Took book r y m → x ≡ y → Allowed r x
      by m y t e = (m, ap (step book r) e ∙ goes book r y m t)

      numbered : (k n : ℕ) → step_of k (0 + n) ≡ step_of k n
      numbered k n = ap (step_of k) (zero-add n)

      outer : (g : Goal) (rest : List Goal) → r.pending ≡ g ∷ rest → g.inner ≡ false →
          In x (map (step_of 2) g.path) ⊎ In x (clauses_from 0 book) → Allowed r x
      outer g rest p i (inl a) =
          let w : OnPath x g.path = path_in x g.path a in
          by (close r g rest w.0) (step_of 2 w.0) (loop_step g rest w.0 p i w.2) w.1
      outer g rest p i (inr a) =
          let w : NamesClause x 0 book = clauses_in x 0 book a in
          by (expand r g rest w.1) (step_of 1 w.0) (clause_step g rest w.0 w.1 p i w.3 w.4)
          (w.2 ∙ numbered 1 w.0)

      kinds : (g : Goal) (rest : List Goal) → r.pending ≡ g ∷ rest → (b : Bool) → g.inner ≡ b →
          In x (tries_of book b g.path) → Allowed r x
      kinds g rest p false i a = outer g rest p i (in_either x (map (step_of 2) g.path) (clauses_from 0 book) a)
      kinds g rest p true i a =
          let w : NamesEntry x 0 book = entries_in x 0 book a in
          by (expand r g rest w.1) (step_of 3 w.0) (entry_step g rest w.0 w.1 p i w.3)
          (w.2 ∙ numbered 3 w.0)

      first : (l : List Goal) → r.pending ≡ l → In x (tries book l) → Allowed r x
      first [] p a = absurd a
      first (g ∷ rest) p a = kinds g rest p g.inner refl a

  -- the tries are the steps that the rules allow
  pub tries_allowed : (r : Replay V) (x : Step) → Among x (tries book r.pending) ↔ Allowed r x
  tries_allowed r x = (
    (λ a. allowed r x (among_in x (tries book r.pending) a.0 a.1)),
    (λ w. in_among x (tries book r.pending) (tried r x w.0 (took book r x w.0 w.1))),
  )
