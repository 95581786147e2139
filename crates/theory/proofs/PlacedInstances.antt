-- The instances of a record, laid into the next cells of the slate: what is known after a grant has a
-- reading, and names only cells in use.
use Rattle.std.proofs.Common.{◌≡◌, ℕ, zero, suc, ◌+◌, ◌-◌, ◌<◌, ◌≤◌, ◌⊎◌, List, [], ◌∷◌, ◌++◌, map, length, get_or, sym, refl, ap, ◌∙◌, subst, inl, inr, arith}
use Rattle.std.specs.List.{slice_get, AllByRecursion}
use Rattle.std.proofs.ByRecursion.{All-append, All-push, All-weaker, All-map}
use Rattle.std.proofs.lemmas.List.{get_or_append_left, get_or_push, length_push}
use Rattle.std.proofs.lemmas.Bool.{cases_lt}
use Rattle.theory.specs.Trees.{Tree, Same, IsTree}
use Rattle.theory.specs.Equations.{Equation, equal, rename, Solves, MeetsAll}
use Rattle.theory.specs.Entries.{Entry, Part, variable, leaf, node, PartsRules, IsNode, EntryRules, BookRules}
use Rattle.theory.specs.Entries.{instance_of}
use Rattle.theory.specs.Records.{Step, Term, cell, part, Goal, goal_at, goal_below, Replay, start, made}
use Rattle.theory.specs.Records.{expand, close}
use Rattle.theory.specs.Records.{Leads, together}
use Rattle.theory.specs.Known.{Names, placed}
use Rattle.theory.proofs.Elements.{all_or, all_nth}
use Rattle.theory.proofs.Readings.{meets_left, meets_right, meets_both, all_names_weaker}
use Rattle.theory.proofs.Readings.{Agrees, there_all, back_all}
use Rattle.theory.proofs.Steps.{Took, clause_step, loop_step, entry_step, took}
use Rattle.theory.proofs.NewCells.{choose}

-- what holds of the cells of an instance holds of the terms that it names
module _ (s : ℕ) (P : Term → Type 0) (n : ℕ) (all : (j : ℕ) → j < n → P (part s j)) where
  -- of the arguments of a node
  args_so : (k : ℕ) → k ≤ n → (args : List ℕ) → AllByRecursion (λ a. a < k) args → AllByRecursion P (map (part s) args)
  args_so k h [] a = tt
  args_so k h (x ∷ args) a = (all x (let b : x < k = a.0 in omega arith), args_so k h args a.1)

  -- of all its leaves and nodes
  parts_so : {V : Type 0} (ps : List (Part V)) (j : ℕ) → j + length ps ≤ n → PartsRules j ps →
      AllByRecursion (Names P) (map (rename (part s)) (instance_of ps j))
  parts_so [] j h r = tt
  parts_so (variable ∷ ps) j h r = parts_so ps (suc j) (omega arith) r.1
  parts_so (leaf x ∷ ps) j h r = (all j (omega arith), parts_so ps (suc j) (omega arith) r.1)
  parts_so (node f args ∷ ps) j h r =
      ((all j (omega arith), args_so j (omega arith) args r.0.2), parts_so ps (suc j) (omega arith) r.1)

module _ {V : Type 0} where
  -- a head or a goal is a cell of the entry
  is_part : (ps : List (Part V)) (k : ℕ) → IsNode (slice_get ps k) → k < length ps
  is_part [] k h = absurd h
  is_part (p ∷ ps) zero h = omega arith
  is_part (p ∷ ps) (suc k) h = let w : k < length ps = is_part ps k h in omega arith

-- a reading v of a record's terms, over a slate with so many cells in use
module _ {V : Type 0} (used : ℕ) (v : Term → Tree V) (trees : (t : Term) → IsTree (v t)) where
  -- the term's step was taken
  abbrev Taken : Replay V → Term → Type 0
  Taken r (cell c) = Unit {0}
  Taken r (part s j) = s < length r.offsets

  -- the term lies below the next free cell, and ρ gives that cell its tree
  abbrev Lies : Replay V → (ℕ → Tree V) → Term → Type 0
  Lies r ρ t =
      Taken r t × (placed used r.offsets t < used + r.cells) × Same (ρ (placed used r.offsets t)) (v t)

  -- so do all terms of the replay
  record Laid (r : Replay V) (ρ : ℕ → Tree V) : Type 0 where
    is_tree : (c : ℕ) → IsTree (ρ c)
    cells : (c : ℕ) → c < used → Same (ρ c) (v (cell c))
    lengths : length r.offsets ≡ length r.taken
    pending : AllByRecursion (λ g. Lies r ρ g.term) r.pending
    taken : AllByRecursion (Lies r ρ) r.taken
    equations : AllByRecursion (Names (Lies r ρ)) r.equations

  -- the reading after one more step: from the next free cell on, the trees of the new instance
  abbrev next : Replay V → (ℕ → Tree V) → ℕ → Tree V
  next r ρ c = choose (cases_lt c (used + r.cells)) (ρ c) (v (part (length r.taken) (c - (used + r.cells))))

  -- below the next free cell nothing changes
  next_low : (r : Replay V) (ρ : ℕ → Tree V) (c : ℕ) → c < used + r.cells → next r ρ c ≡ ρ c
  next_low r ρ c h = go (cases_lt c (used + r.cells))
    where
      bad : used + r.cells ≤ c → ⊥
      bad q = omega arith

      go : (b : (c < used + r.cells) ⊎ (used + r.cells ≤ c)) →
          choose b (ρ c) (v (part (length r.taken) (c - (used + r.cells)))) ≡ ρ c
      go (inl p) = refl
      go (inr q) = absurd (bad q)

  -- from there on are the trees of the new instance
  next_high : (r : Replay V) (ρ : ℕ → Tree V) (j : ℕ) →
      next r ρ (used + (r.cells + j)) ≡ v (part (length r.taken) j)
  next_high r ρ j = go (cases_lt (used + (r.cells + j)) (used + r.cells))
    where
      minus : (used + (r.cells + j)) - (used + r.cells) ≡ j
      minus = omega arith

      bad : used + (r.cells + j) < used + r.cells → ⊥
      bad q = omega arith

      go : (b : (used + (r.cells + j) < used + r.cells) ⊎ (used + r.cells ≤ used + (r.cells + j))) →
          choose b (ρ (used + (r.cells + j)))
          (v (part (length r.taken) ((used + (r.cells + j)) - (used + r.cells))))
          ≡ v (part (length r.taken) j)
      go (inl p) = absurd (bad p)
      go (inr q) = ap (λ k. v (part (length r.taken) k)) minus

  -- every cell has a tree
  next_is : (r : Replay V) (ρ : ℕ → Tree V) → ((c : ℕ) → IsTree (ρ c)) → (c : ℕ) → IsTree (next r ρ c)
  next_is r ρ h c = go (cases_lt c (used + r.cells))
    where
      go : (b : (c < used + r.cells) ⊎ (used + r.cells ≤ c)) →
          IsTree (choose b (ρ c) (v (part (length r.taken) (c - (used + r.cells)))))
      go (inl p) = h c
      go (inr q) = trees _

  -- a step leaves the terms so far where they lie
  stays : (r : Replay V) (t : Term) → Taken r t →
      placed used (r.offsets ++ (r.cells ∷ [])) t ≡ placed used r.offsets t
  stays r (cell c) h = refl
  stays r (part s j) h = ap (λ o. used + (o + j)) (get_or_append_left r.offsets (r.cells ∷ []) 0 s h)

  -- a step that was taken still is
  still_taken : (r m : Replay V) → m.offsets ≡ r.offsets ++ (r.cells ∷ []) → (t : Term) → Taken r t → Taken m t
  still_taken r m o (cell c) h = tt
  still_taken r m o (part s j) h =
      subst (λ l. s < length l) (sym o) (subst (λ k. s < k) (sym (length_push r.offsets r.cells))
      (omega arith))

  -- and ρ still gives them their trees
  keeps : (r m : Replay V) (ρ : ℕ → Tree V) → m.offsets ≡ r.offsets ++ (r.cells ∷ []) → r.cells ≤ m.cells →
      (t : Term) → Lies r ρ t → Lies m (next r ρ) t
  keeps r m ρ o c t (ok, low, same) =
      let e : placed used m.offsets t ≡ placed used r.offsets t =
      ap (λ l. placed used l t) o ∙ stays r t ok in (
        still_taken r m o t ok,
        subst (λ k. k < used + m.cells) (sym e) (omega arith),
        λ p. ap (λ k. next r ρ k p) e ∙ (ap (λ z. z p) (next_low r ρ (placed used r.offsets t) low) ∙ same p),
      )

  -- and the cells of the new instance lie in the next cells
  fresh : (r : Replay V) (ρ : ℕ → Tree V) (g : Goal) (rest : List Goal) (e : Entry V) →
      length r.offsets ≡ length r.taken → (j : ℕ) → j < length e.parts →
      Lies (expand r g rest e) (next r ρ) (part (length r.taken) j)
  fresh r ρ g rest e l j h =
      let s : ℕ = length r.taken in
      let here : placed used (r.offsets ++ (r.cells ∷ [])) (part s j) ≡ used + (r.cells + j) =
      ap (λ k. used + (k + j)) (get_or_push r.offsets r.cells 0 s l) in
      let low : s < length r.offsets + 1 = omega arith in (
        subst (λ k. s < k) (sym (length_push r.offsets r.cells)) low,
        subst (λ k. k < used + (r.cells + length e.parts)) (sym here) (omega arith),
        λ p. ap (λ k. next r ρ k p) here ∙ ap (λ z. z p) (next_high r ρ j),
      )

  -- what a step keeps, whatever its mode
  module _ (r m : Replay V) (ρ : ℕ → Tree V) (g : Goal) (rest : List Goal) (p : r.pending ≡ g ∷ rest)
      (l : Laid r ρ)
      (offsets : m.offsets ≡ r.offsets ++ (r.cells ∷ [])) (taken : m.taken ≡ r.taken ++ (g.term ∷ []))
      (more : r.cells ≤ m.cells) where
    -- the terms so far lie where they lay
    keep : (t : Term) → Lies r ρ t → Lies m (next r ρ) t
    keep = keeps r m ρ offsets more

    -- so does the goal that is taken
    goal_lies : Lies m (next r ρ) g.term
    goal_lies = keep g.term (subst (AllByRecursion (λ h. Lies r ρ h.term)) p l.pending).0

    -- and the others
    rest_lies : AllByRecursion (λ h. Lies m (next r ρ) h.term) rest
    rest_lies =
        All-weaker (λ h. Lies r ρ h.term) (λ h. Lies m (next r ρ) h.term) (λ h. keep h.term) rest
        (subst (AllByRecursion (λ h. Lies r ρ h.term)) p l.pending).1

    -- and the terms of the equations so far
    old_equations : AllByRecursion (Names (Lies m (next r ρ))) r.equations
    old_equations = all_names_weaker (Lies r ρ) (Lies m (next r ρ)) keep r.equations l.equations

    -- so only what is new is left to show
    laid_by : AllByRecursion (λ h. Lies m (next r ρ) h.term) m.pending → (es : List (Equation V Term)) →
        m.equations ≡ r.equations ++ es → AllByRecursion (Names (Lies m (next r ρ))) es → Laid m (next r ρ)
    laid_by pending es q new = record {
      is_tree = next_is r ρ l.is_tree;
      cells = λ c h k. ap (λ z. z k) (next_low r ρ c (omega arith)) ∙ l.cells c h k;
      lengths =
          ap length offsets
          ∙ (length_push r.offsets r.cells
          ∙ (ap (λ k. k + 1) l.lengths ∙ (sym (length_push r.taken g.term) ∙ sym (ap length taken))));
      pending = pending;
      taken =
          subst (AllByRecursion (Lies m (next r ρ))) (sym taken)
          (All-push (Lies m (next r ρ)) r.taken g.term
          (All-weaker (Lies r ρ) (Lies m (next r ρ)) keep r.taken l.taken) goal_lies);
      equations =
          subst (AllByRecursion (Names (Lies m (next r ρ)))) (sym q)
          (All-append (Names (Lies m (next r ρ))) r.equations es old_equations new);
    }

  -- a step that names an entry
  laid_expand : (r : Replay V) (ρ : ℕ → Tree V) (g : Goal) (rest : List Goal) (e : Entry V) →
      r.pending ≡ g ∷ rest → EntryRules e → Laid r ρ → Laid (expand r g rest e) (next r ρ)
  laid_expand r ρ g rest e p rules l =
      let m : Replay V = expand r g rest e in
      let s : ℕ = length r.taken in
      let Fine : Term → Type 0 = Lies m (next r ρ) in
      let more : r.cells ≤ m.cells = omega arith in
      let new : (j : ℕ) → j < length e.parts → Fine (part s j) = fresh r ρ g rest e l.lengths in
      let body : AllByRecursion (λ b. Fine (part s b)) e.body =
      All-weaker (λ b. IsNode (slice_get e.parts b)) (λ b. Fine (part s b)) (λ b n. new b (is_part e.parts b n))
      e.body rules.goals in
      laid_by r m ρ g rest p l refl refl more
      (All-append (λ h. Fine h.term) (map (goal_below s g) e.body) rest
      (All-map (λ h. Fine h.term) (goal_below s g) e.body body)
      (rest_lies r m ρ g rest p l refl refl more))
      (made s e ++ (equal g.term (part s e.head) ∷ [])) refl
      (All-push (Names Fine) (made s e) (equal g.term (part s e.head))
      (parts_so s Fine (length e.parts) new e.parts 0 (omega arith) rules.parts)
      (goal_lies r m ρ g rest p l refl refl more, new e.head (is_part e.parts e.head rules.head)))

  -- a step that closes a loop
  laid_close : (r : Replay V) (ρ : ℕ → Tree V) (g : Goal) (rest : List Goal) (n : ℕ) →
      r.pending ≡ g ∷ rest → Laid r ρ → Laid (close r g rest n) (next r ρ)
  laid_close r ρ g rest n p l =
      let m : Replay V = close r g rest n in
      let more : r.cells ≤ m.cells = omega arith in
      let goal : Lies m (next r ρ) g.term = goal_lies r m ρ g rest p l refl refl more in
      let other : Lies m (next r ρ) (get_or r.taken n g.term) =
      all_or (Lies m (next r ρ)) r.taken g.term
      (All-weaker (Lies r ρ) (Lies m (next r ρ)) (keep r m ρ g rest p l refl refl more) r.taken l.taken)
      goal n in
      laid_by r m ρ g rest p l refl refl more
      (goal, rest_lies r m ρ g rest p l refl refl more)
      (equal g.term (get_or r.taken n g.term) ∷ []) refl ((goal, other), tt)

  module _ (book : List (Entry V)) (rules : BookRules book) where
    -- any step
    laid_step : (r : Replay V) (ρ : ℕ → Tree V) (x : Step) (m : Replay V) → Took book r x m → Laid r ρ →
        Laid m (next r ρ)
    laid_step r ρ x m (clause_step g rest n e p i f c) l =
        laid_expand r ρ g rest e p (all_nth EntryRules book n e rules.entries f) l
    laid_step r ρ x m (loop_step g rest n p i f) l = laid_close r ρ g rest n p l
    laid_step r ρ x m (entry_step g rest n e p i f) l =
        laid_expand r ρ g rest e p (all_nth EntryRules book n e rules.entries f) l

    -- any steps
    laid : (r : Replay V) (ρ : ℕ → Tree V) (xs : List Step) (t : Replay V) → Leads book r xs t → Laid r ρ →
        (σ : ℕ → Tree V) × Laid t σ
    laid r ρ [] t l a = (ρ, subst (λ q. Laid q ρ) l a)
    laid r ρ (x ∷ xs) t (m, s, l) a = laid m (next r ρ) xs t l (laid_step r ρ x m (took book r x m s) a)

    -- and the start
    laid_start : (goals : List ℕ) → AllByRecursion (λ g. g < used) goals → Laid (start goals) (λ c. v (cell c))
    laid_start goals a =
        let Fine : Term → Type 0 = Lies (start goals) (λ c. v (cell c)) in
        record {
          is_tree = λ c. trees (cell c);
          cells = λ c h p. refl;
          lengths = refl;
          pending =
              All-map (λ g. Fine g.term) goal_at goals
              (All-weaker (λ g. g < used) (λ g. Fine (cell g)) (λ g h. (tt, omega arith, λ p. refl)) goals a);
          taken = tt;
          equations = tt;
        }

    -- the record leads from goals that are in use
    module _ (goals : List ℕ) (in_use : AllByRecursion (λ g. g < used) goals) (xs : List Step) (t : Replay V)
        (leads : Leads book (start goals) xs t) where
      -- the reading of the cells at its end
      abbrev at_last : (σ : ℕ → Tree V) × Laid t σ
      at_last = laid (start goals) (λ c. v (cell c)) xs t leads (laid_start goals in_use)

      -- its terms lie below the next free cell
      pub placed_low : AllByRecursion (Names (λ x. placed used t.offsets x < used + t.cells)) t.equations
      placed_low =
          all_names_weaker (Lies t at_last.0) (λ x. placed used t.offsets x < used + t.cells) (λ x q. q.1)
          t.equations at_last.1.equations

      -- a reading of what is known and the record gives one of the cells after the grant
      pub placed_solves : (known : List (Equation V ℕ)) → AllByRecursion (Names (λ c. c < used)) known →
          MeetsAll v (together known t) →
          (σ : ℕ → Tree V) × Solves (known ++ map (rename (placed used t.offsets)) t.equations) σ
      placed_solves known low m = (σ, record { trees = at_last.1.is_tree; meets = meets })
        where
          σ : ℕ → Tree V
          σ = at_last.0

          meets_known : MeetsAll σ known
          meets_known =
              back_all cell v σ known
              (all_names_weaker (λ c. c < used) (Agrees cell v σ)
              (λ c h p. sym (at_last.1.cells c h p)) known low)
              (meets_left v (map (rename cell) known) t.equations m)

          meets_record : MeetsAll σ (map (rename (placed used t.offsets)) t.equations)
          meets_record =
              there_all (placed used t.offsets) σ v t.equations
              (all_names_weaker (Lies t σ) (Agrees (placed used t.offsets) σ v) (λ x q. q.2)
              t.equations at_last.1.equations)
              (meets_right v (map (rename cell) known) t.equations m)

          meets : MeetsAll σ (known ++ map (rename (placed used t.offsets)) t.equations)
          meets =
              meets_both σ known (map (rename (placed used t.offsets)) t.equations) meets_known meets_record
