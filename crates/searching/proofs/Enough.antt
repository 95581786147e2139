-- With two turns for each try of its budget, and one more, the executable search comes to an end.
use Rattle.std.proofs.Common.{◌≡◌, ℕ, zero, suc, ◌+◌, ◌-◌, ◌*◌, ◌<◌, ◌≤◌, Bool, true, false, eqb, ltb, List, [], ◌∷◌, length, Some, None, Option, sym, refl, subst, inl, inr, arith}
use Rattle.std.specs.List.{AllByRecursion}
use Rattle.std.proofs.lemmas.Bool.{eqb-false, lt-ltb}
use Rattle.theory.specs.Entries.{Entry}
use Rattle.theory.specs.Records.{Step, Goal, Replay, start, step}
use Rattle.theory.specs.Search.{Limits, tries, without, onward}
use Rattle.theory.specs.Calls.{Call, write_open, write_leaf, write_node, equate, compare, solve, check}
use Rattle.theory.specs.Calls.{Refusal, Event}
use Rattle.theory.specs.Answers.{Symbols}
use Rattle.theory.proofs.Tries.{In, Allowed, allowed}
use Rattle.unify.specs.Cells.{Content, Cell}
use Rattle.unify.specs.Unify.{Move}
use Rattle.unify.specs.Unify
use Rattle.searching.specs.Trying.{attempt}
use Rattle.searching.specs.Solving.{Spot, Ended, Goes, spot, by_move, by_cells, by_step, by_room, by_budget}
use Rattle.searching.specs.Solving.{by_below, by_left, by_pending, searches, solves, first_point}
use Rattle.searching.specs.Answering.{Answered, refusing, if_used, if_atoms, next_cell, if_small, by_unifying}
use Rattle.searching.specs.Answering.{by_comparing, by_searching, limits_of, writes, answers, before, next_call}
use Rattle.searching.specs.Answering.{sits}
use Rattle.searching.specs.Theorems.{Enough, TurnsSuffice}

-- something comes out
abbrev Comes : {A : Type 0} → Option A → Type 0
Comes {A} o = (a : A) × (o ≡ Some a)

-- what holds of every step in a list holds of each
all_in : (P : Step → Type 0) (l : List Step) → ((x : Step) → In x l → P x) → AllByRecursion P l
all_in P [] h = tt
all_in P (y ∷ l) h = (h y (inl refl), all_in P l (λ x i. h x (inr i)))

module _ {V : Type 0} (same : V → V → Bool) (book : List (Entry V)) (used : ℕ) (lim : Limits) where
  -- the tries left of a point break no rule
  abbrev Ready : Spot V → Type 0
  Ready s = AllByRecursion (Allowed book s.point.at) s.point.left

  -- so do those of a new point
  ready : (r : Replay V) → AllByRecursion (Allowed book r) (tries book r.pending)
  ready r = all_in (Allowed book r) (tries book r.pending) (allowed book r)

  -- the search ends wherever no more turns are needed
  abbrev EndsWithin : ℕ → Goes V → Type 0
  EndsWithin turns go = (s : Spot V) (below : List (Spot V)) (n : ℕ) → Ready s → AllByRecursion Ready below →
      n ≤ lim.budget → 2 * (lim.budget - n) + length below < turns → Comes (go s below n)

  module _ (t : ℕ) (go : Goes V) (ends : EndsWithin t go) (s : Spot V) (below : List (Spot V)) (n : ℕ)
      (rs : AllByRecursion Ready below) (few : n ≤ lim.budget)
      (turns : 2 * (lim.budget - n) + length below < suc t) where
    -- no try is left
    below_ends : Comes (by_below same book used lim go s n below)
    unfolding by_below
    below_ends = at below rs turns
      where
        at : (l : List (Spot V)) → AllByRecursion Ready l → 2 * (lim.budget - n) + length l < suc t →
            Comes (by_below same book used lim go s n l)
        at [] a h = (_, refl)
        at (q ∷ qs) a h = ends q qs n a.0 a.1 few (omega arith)

    -- a try may be made
    module _ (g : Goal) (x : Step) (xs : List Step) (ok : Allowed book s.point.at x)
        (oks : AllByRecursion (Allowed book s.point.at) xs) where
      -- the try stands or is taken back
      move_ends : n < lim.budget → (m : Replay V) (v : Move V) →
          Comes (by_move same book used lim go s below n x xs m v)
      unfolding by_move
      move_ends h m (Move.went u) =
          ends (spot (onward book s.point x m) u.cells) (spot (without s.point xs) s.cells ∷ below)
          (suc n) (ready m) (oks, rs) (omega arith) (omega arith)
      move_ends h m (Move.clash u) =
          ends (spot (without s.point xs) s.cells) below (suc n) oks rs (omega arith) (omega arith)

      -- the instance fits or does not
      cells_end : n < lim.budget → (m : Replay V) (b : Bool) →
          Comes (by_cells same book used lim go s below n g x xs m b)
      unfolding by_cells
      cells_end h m true = (_, refl)
      cells_end h m false =
          move_ends h m (attempt same book used s.cells s.point.at g x.mode x.number)

      -- the step breaks no rule
      step_ends : n < lim.budget →
          Comes (by_step same book used lim go s below n g x xs (step book s.point.at x))
      unfolding by_step
      step_ends h =
          subst (λ o. Comes (by_step same book used lim go s below n g x xs o)) (sym ok.1)
          (cells_end h ok.0 (ltb lim.free ok.0.cells))

      -- a record step is free or is not
      room_ends : n < lim.budget → (b : Bool) → Comes (by_room same book used lim go s below n g x xs b)
      unfolding by_room
      room_ends h true = step_ends h
      room_ends h false = (_, refl)

      -- the budget is spent or is not
      budget_ends : (b : Bool) → eqb n lim.budget ≡ b →
          Comes (by_budget same book used lim go s below n g x xs b)
      unfolding by_budget
      budget_ends true e = (_, refl)
      budget_ends false e =
          let d : n ≡ lim.budget → ⊥ = eqb-false n lim.budget e in
          room_ends (omega arith) (ltb (length s.point.steps) lim.room)

    -- the tries that are left
    left_ends : (g : Goal) (l : List Step) → AllByRecursion (Allowed book s.point.at) l →
        Comes (by_left same book used lim go s below n g l)
    unfolding by_left
    left_ends g [] a = below_ends
    left_ends g (x ∷ xs) a = budget_ends g x xs a.0 a.1 (eqb n lim.budget) refl

    -- the goals that are pending
    pending_ends : Ready s → (l : List Goal) → Comes (by_pending same book used lim go s below n l)
    unfolding by_pending
    pending_ends a [] = (_, refl)
    pending_ends a (g ∷ rest) = left_ends g s.point.left a

  -- the search ends
  searches_end : (turns : ℕ) → EndsWithin turns (searches same book used lim turns)
  unfolding searches
  searches_end zero s below n a rs few h = absurd (no_turns h)
    where
      no_turns : 2 * (lim.budget - n) + length below < 0 → ⊥
      no_turns h = omega arith
  searches_end (suc t) s below n a rs few h =
      pending_ends t (searches same book used lim t) (searches_end t) s below n rs few h a s.point.at.pending

  -- so does that for a record of the goals
  pub solves_end : (turns : ℕ) → 2 * lim.budget < turns → (cells : List (Cell V)) (goals : List ℕ) →
      Comes (solves same book used lim turns cells goals)
  unfolding solves
  solves_end turns h cells goals =
      searches_end turns (spot (first_point same book used lim goals) cells) [] 0 (ready (start goals)) tt
      (omega arith) (omega arith)

module _ {V : Type 0} (cells : List (Cell V)) where
  -- a test leaves an answer
  refusing_comes : (r : Refusal) (b : Bool) (rest : Option (Answered V)) → Comes rest →
      Comes (refusing cells r b rest)
  unfolding refusing
  refusing_comes r true rest w = (_, refl)
  refusing_comes r false rest w = w

  -- so does that of the cells
  used_comes : (o : Option ℕ) (rest : Option (Answered V)) → Comes rest → Comes (if_used cells o rest)
  unfolding if_used
  used_comes (Some c) rest w = (_, refl)
  used_comes None rest w = w

  -- and that of the goals
  atoms_comes : (o : Option ℕ) (rest : Option (Answered V)) → Comes rest → Comes (if_atoms cells o rest)
  unfolding if_atoms
  atoms_comes (Some c) rest w = (_, refl)
  atoms_comes None rest w = w

  -- and that of a symbol of 16 bits
  small_comes : (b : Bool) → b ≡ true → (rest : Option (Answered V)) → Comes rest → Comes (if_small b rest)
  unfolding if_small
  small_comes b e rest w = subst (λ z. Comes (if_small z rest)) (sym e) w

  -- a write has an answer
  next_comes : (c : Content V) (b : Bool) → Comes (next_cell cells c b)
  unfolding next_cell
  next_comes c true = (_, refl)
  next_comes c false = (_, refl)

  -- so has an equate
  unifying_comes : (m : Move V) → Comes (by_unifying cells m)
  unfolding by_unifying
  unifying_comes (Move.went s) = (_, refl)
  unifying_comes (Move.clash s) = (_, refl)

  -- and a compare
  comparing_comes : (m : Move V) → Comes (by_comparing cells m)
  unfolding by_comparing
  comparing_comes (Move.went s) = (_, refl)
  comparing_comes (Move.clash s) = (_, refl)

  -- and a search that has ended
  searching_comes : (o : Option (Ended V)) → Comes o → Comes (by_searching cells o)
  unfolding by_searching
  searching_comes o w = subst (λ z. Comes (by_searching cells z)) (sym w.1) (_, refl)

module _ {V : Type 0} (same : V → V → Bool) (book : List (Entry V)) (supplied turns : ℕ) where
  -- a write has an answer
  writes_come : (cells : List (Cell V)) (c : Content V) → Comes (writes same book supplied turns cells c)
  unfolding writes
  writes_come cells c = next_comes cells c _

  -- every call has an answer
  answers_come : (cells : List (Cell V)) (c : Call V) → Symbols c → Enough turns c →
      Comes (answers same book supplied turns cells c)
  unfolding answers
  answers_come cells write_open s e = writes_come cells Content.variable
  answers_come cells (write_leaf v) s e = writes_come cells (Content.leaf v)
  answers_come cells (write_node f args) s e =
      small_comes cells (ltb f 65536) (lt-ltb f 65536 s) _
      (refusing_comes cells _ _ _ (used_comes cells _ _ (writes_come cells (Content.node f args))))
  answers_come cells (equate x y w) s e =
      used_comes cells _ _ (refusing_comes cells _ _ _ (unifying_comes cells (Unify.unify same cells x y)))
  answers_come cells (compare x y w) s e =
      used_comes cells _ _ (refusing_comes cells _ _ _ (comparing_comes cells (Unify.compare same cells x y)))
  answers_come cells (solve goals b s' w f) s e =
      refusing_comes cells _ _ _ (used_comes cells _ _ (atoms_comes cells _ _ (refusing_comes cells _ _ _
      (searching_comes cells _
      (solves_end same book (length cells) (limits_of same book supplied turns cells b s') turns e cells goals)))))
  answers_come cells (check goals steps w f) s e =
      refusing_comes cells _ _ _
      (used_comes cells _ _ (atoms_comes cells _ _ (refusing_comes cells _ _ _ (_, refl))))

  -- one more event comes out with the others
  before_comes : (e : Event V) (o : Option (List (Event V))) → Comes o → Comes (before e o)
  unfolding before
  before_comes e o w = subst (λ z. Comes (before e z)) (sym w.1) (_, refl)

  -- so does one more call
  call_comes : (c : Call V) (o : Option (Answered V)) → Comes o → (go : List (Cell V) → Option (List (Event V))) →
      ((cells : List (Cell V)) → Comes (go cells)) → Comes (next_call c o go)
  unfolding next_call
  call_comes c o w go h =
      subst (λ z. Comes (next_call c z go)) (sym w.1) (before_comes _ (go w.0.cells) (h w.0.cells))

  -- and any calls
  sits_come : (cs : List (Call V)) → AllByRecursion (λ c. Symbols c × Enough turns c) cs → (cells : List (Cell V)) →
      Comes (sits same book supplied turns cs cells)
  unfolding sits
  sits_come [] a cells = ([], refl)
  sits_come (c ∷ cs) a cells =
      call_comes c (answers same book supplied turns cells c) (answers_come cells c a.0.0 a.0.1)
      (sits same book supplied turns cs) (sits_come cs a.1)

-- every sitting comes out
pub turns_are_enough : (V : Type 0) → TurnsSuffice V
turns_are_enough V same book supplied turns calls cells a = sits_come same book supplied turns calls a cells
