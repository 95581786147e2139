-- The terms of a replay belong to steps that were taken, so that later steps leave them where they lie.
use Rattle.std.proofs.Common.{◌≡◌, ℕ, ◌+◌, ◌<◌, ◌≤◌, List, [], ◌∷◌, ◌++◌, map, length, get_or, sym, refl, ap, ◌∙◌, subst, arith}
use Rattle.std.specs.List.{AllByRecursion}
use Rattle.std.proofs.ByRecursion.{All-append, All-push, All-weaker, All-map}
use Rattle.std.proofs.lemmas.List.{get_or_append_left, length_push}
use Rattle.theory.specs.Equations.{Equation, is_leaf, is_node, equal, rename}
use Rattle.theory.specs.Entries.{Entry, instance_of}
use Rattle.theory.specs.Records.{Step, Term, cell, part, Goal, goal_at, goal_below, Replay, start, made}
use Rattle.theory.specs.Records.{expand, close}
use Rattle.theory.specs.Known.{Names, placed}
use Rattle.theory.proofs.Elements.{all_or, all_any}
use Rattle.theory.proofs.Readings.{all_names_weaker, all_names_renamed}
use Rattle.theory.proofs.Steps.{Took, clause_step, loop_step, entry_step}

-- the term's step is one of the first k
abbrev pub Within : ℕ → Term → Type 0
Within k (cell c) = Unit {0}
Within k (part s j) = s < k

-- a term of the first k steps is one of more
within_more : (k n : ℕ) → k ≤ n → (t : Term) → Within k t → Within n t
within_more k n h (cell c) w = tt
within_more k n h (part s j) w = omega arith

module _ {V X : Type 0} (P : X → Type 0) (h : (x : X) → P x) where
  -- what holds of all terms holds of those that an equation names
  names_any : (e : Equation V X) → Names P e
  names_any (is_leaf x v) = h x
  names_any (is_node x f xs) = (h x, all_any P h xs)
  names_any (equal x y) = (h x, h y)

  -- so for each equation of a list
  all_names_any : (es : List (Equation V X)) → AllByRecursion (Names P) es
  all_names_any es = all_any (Names P) names_any es

module _ {V : Type 0} where
  -- all terms of the replay are of steps taken
  pub record Scoped (r : Replay V) : Type 0 where
    pub lengths : length r.offsets ≡ length r.taken
    pub pending : AllByRecursion (λ g. Within (length r.taken) g.term) r.pending
    pub taken : AllByRecursion (Within (length r.taken)) r.taken
    pub equations : AllByRecursion (Names (Within (length r.taken))) r.equations

  -- at the start
  pub scoped_start : (goals : List ℕ) → Scoped (start {V = V} goals)
  scoped_start goals = record {
    lengths = refl;
    pending = All-map (λ g. Within 0 g.term) goal_at goals (all_any (λ g. Within 0 (cell g)) (λ g. tt) goals);
    taken = tt;
    equations = tt;
  }

  -- what a step keeps, whatever its mode
  module _ (r m : Replay V) (g : Goal) (rest : List Goal) (p : r.pending ≡ g ∷ rest) (s : Scoped r)
      (offsets : m.offsets ≡ r.offsets ++ (r.cells ∷ [])) (taken : m.taken ≡ r.taken ++ (g.term ∷ [])) where
    -- the step is one more
    one_more : length m.taken ≡ length r.taken + 1
    one_more = ap length taken ∙ length_push r.taken g.term

    -- the terms so far are still of steps taken
    keep : (t : Term) → Within (length r.taken) t → Within (length m.taken) t
    keep t w = within_more (length r.taken) (length m.taken) (let e = one_more in omega arith) t w

    -- so is the goal that is taken
    goal_within : Within (length m.taken) g.term
    goal_within = keep g.term (subst (AllByRecursion (λ h. Within (length r.taken) h.term)) p s.pending).0

    -- and the others
    rest_within : AllByRecursion (λ h. Within (length m.taken) h.term) rest
    rest_within =
        All-weaker (λ h. Within (length r.taken) h.term) (λ h. Within (length m.taken) h.term)
        (λ h. keep h.term) rest (subst (AllByRecursion (λ h. Within (length r.taken) h.term)) p s.pending).1

    -- so only what is new is left to show
    scoped_by : AllByRecursion (λ h. Within (length m.taken) h.term) m.pending → (es : List (Equation V Term)) →
        m.equations ≡ r.equations ++ es → AllByRecursion (Names (Within (length m.taken))) es → Scoped m
    scoped_by pending es q new =
        let P : Term → Type 0 = Within (length m.taken) in
        let O : Term → Type 0 = Within (length r.taken) in
        record {
          lengths =
              ap length offsets
              ∙ (length_push r.offsets r.cells ∙ (ap (λ k. k + 1) s.lengths ∙ sym one_more));
          pending = pending;
          taken =
              subst (AllByRecursion P) (sym taken)
              (All-push P r.taken g.term (All-weaker O P keep r.taken s.taken) goal_within);
          equations =
              subst (AllByRecursion (Names P)) (sym q)
              (All-append (Names P) r.equations es (all_names_weaker O P keep r.equations s.equations)
              new);
        }

  -- a step that names an entry
  scoped_expand : (r : Replay V) (g : Goal) (rest : List Goal) (e : Entry V) → r.pending ≡ g ∷ rest → Scoped r →
      Scoped (expand r g rest e)
  scoped_expand r g rest e p s =
      let m : Replay V = expand r g rest e in
      let n : ℕ = length r.taken in
      let P : Term → Type 0 = Within (length m.taken) in
      let more : length (r.taken ++ (g.term ∷ [])) ≡ n + 1 = length_push r.taken g.term in
      let new : (j : ℕ) → P (part n j) = λ j. subst (λ k. n < k) (sym more) (omega arith) in
      scoped_by r m g rest p s refl refl
      (All-append (λ h. P h.term) (map (goal_below n g) e.body) rest
      (All-map (λ h. P h.term) (goal_below n g) e.body (all_any (λ b. P (part n b)) new e.body))
      (rest_within r m g rest p s refl refl))
      (made n e ++ (equal g.term (part n e.head) ∷ [])) refl
      (All-push (Names P) (made n e) (equal g.term (part n e.head))
      (all_names_renamed (part n) P (instance_of e.parts 0)
      (all_names_any (λ j. P (part n j)) new (instance_of e.parts 0)))
      (goal_within r m g rest p s refl refl, new e.head))

  -- a step that closes a loop
  scoped_close : (r : Replay V) (g : Goal) (rest : List Goal) (n : ℕ) → r.pending ≡ g ∷ rest → Scoped r →
      Scoped (close r g rest n)
  scoped_close r g rest n p s =
      let m : Replay V = close r g rest n in
      let P : Term → Type 0 = Within (length m.taken) in
      let goal : P g.term = goal_within r m g rest p s refl refl in
      let all : AllByRecursion P r.taken =
      All-weaker (Within (length r.taken)) P (keep r m g rest p s refl refl) r.taken s.taken in
      scoped_by r m g rest p s refl refl (goal, rest_within r m g rest p s refl refl)
      (equal g.term (get_or r.taken n g.term) ∷ []) refl
      ((goal, all_or P r.taken g.term all goal n), tt)

  -- any step
  pub scoped_step : (book : List (Entry V)) (r : Replay V) (x : Step) (m : Replay V) → Took book r x m →
      Scoped r → Scoped m
  scoped_step book r x m (clause_step g rest n e p i f c) s = scoped_expand r g rest e p s
  scoped_step book r x m (loop_step g rest n p i f) s = scoped_close r g rest n p s
  scoped_step book r x m (entry_step g rest n e p i f) s = scoped_expand r g rest e p s

-- one more offset leaves the terms so far where they lie
pub stays : (used : ℕ) (offsets : List ℕ) (c : ℕ) (t : Term) → Within (length offsets) t →
    placed used (offsets ++ (c ∷ [])) t ≡ placed used offsets t
stays used offsets c (cell d) w = refl
stays used offsets c (part s j) w = ap (λ o. used + (o + j)) (get_or_append_left offsets (c ∷ []) 0 s w)

module _ {X Y : Type 0} (f h : X → Y) (P : X → Type 0) (same : (x : X) → P x → f x ≡ h x) where
  -- maps that agree on the terms named agree on a list of them
  map_alike : (xs : List X) → AllByRecursion P xs → map f xs ≡ map h xs
  map_alike [] a = refl
  map_alike (x ∷ xs) a = λ i. same x a.0 i ∷ map_alike xs a.1 i

  -- and on an equation
  rename_alike : {V : Type 0} (e : Equation V X) → Names P e → rename f e ≡ rename h e
  rename_alike (is_leaf x v) a = λ i. is_leaf (same x a i) v
  rename_alike (is_node x s xs) a = λ i. is_node (same x a.0 i) s (map_alike xs a.1 i)
  rename_alike (equal x y) a = λ i. equal (same x a.0 i) (same y a.1 i)

  -- and on a list of equations
  pub renames_alike : {V : Type 0} (es : List (Equation V X)) → AllByRecursion (Names P) es →
      map (rename f) es ≡ map (rename h) es
  renames_alike [] a = refl
  renames_alike (e ∷ es) a = λ i. rename_alike e a.0 i ∷ renames_alike es a.1 i

module _ {X Y Z : Type 0} (f : Y → Z) (g : X → Y) (h : X → Z) (same : (x : X) → f (g x) ≡ h x) where
  -- two maps one after the other, as one
  map_through : (xs : List X) → map f (map g xs) ≡ map h xs
  map_through [] = refl
  map_through (x ∷ xs) = λ i. same x i ∷ map_through xs i

  -- over an equation
  rename_through : {V : Type 0} (e : Equation V X) → rename f (rename g e) ≡ rename h e
  rename_through (is_leaf x v) = λ i. is_leaf (same x i) v
  rename_through (is_node x s xs) = λ i. is_node (same x i) s (map_through xs i)
  rename_through (equal x y) = λ i. equal (same x i) (same y i)

  -- over a list of equations
  pub renames_through : {V : Type 0} (es : List (Equation V X)) →
      map (rename f) (map (rename g) es) ≡ map (rename h) es
  renames_through [] = refl
  renames_through (e ∷ es) = λ i. rename_through e i ∷ renames_through es i
