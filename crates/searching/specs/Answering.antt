-- The executable answers of the calls, over cells, and the sitting that they make.
use Rattle.std.specs.Prelude.{ℕ, ◌-◌, ◌*◌, Bool, true, false, ◌||◌, List, [], ◌∷◌, length, Some, None, Option, nat_lt}
use Rattle.theory.specs.Entries.{Entry}
use Rattle.theory.specs.Search.{Limits, Outcome, granted, failed, spent, full, short}
use Rattle.theory.specs.Calls.{Call, write_open, write_leaf, write_node, equate, compare, solve, check}
use Rattle.theory.specs.Calls.{Refusal, not_in_use, too_many_arguments, not_an_atom, too_long, too_short}
use Rattle.theory.specs.Calls.{no_cell}
use Rattle.theory.specs.Calls.{Answer, wrote, accepted, same, different, refused, Event}
use Rattle.theory.specs.Answers.{capacity, served, first_unused, answer_of, answer_to}
use Rattle.unify.specs.Cells.{Content, Cell, content_at, root}
use Rattle.unify.specs.Unify.{Move}
use Rattle.unify.specs.Unify
use Rattle.unify.specs.Writing.{write}
use Rattle.searching.specs.Solving.{Ended, solves}
use Rattle.searching.specs.Checking.{checks}

-- an answer, and the cells that the call leaves
pub record Answered (V : Type 0) : Type 0 where
  pub answer : Answer
  pub cells : List (Cell V)

-- the goal, where it is no atom, or else what was found of the others
unfoldable pub or_goal : Bool → ℕ → Option ℕ → Option ℕ
or_goal true g rest = rest
or_goal false g rest = Some g

module _ {V : Type 0} where
  -- an answer with the cells that it leaves
  abbrev pub answered : Answer → List (Cell V) → Option (Answered V)
  answered a cells = Some (record { answer = a; cells = cells })

  -- a refusal leaves the cells as they were
  unfoldable pub refusing : List (Cell V) → Refusal → Bool → Option (Answered V) → Option (Answered V)
  refusing cells r true rest = answered (refused r) cells
  refusing cells r false rest = rest

  -- the first cell that is not in use is refused
  unfoldable pub if_used : List (Cell V) → Option ℕ → Option (Answered V) → Option (Answered V)
  if_used cells (Some c) rest = answered (refused (not_in_use c)) cells
  if_used cells None rest = rest

  -- the first goal that is no atom is refused
  unfoldable pub if_atoms : List (Cell V) → Option ℕ → Option (Answered V) → Option (Answered V)
  if_atoms cells (Some c) rest = answered (refused (not_an_atom c)) cells
  if_atoms cells None rest = rest

  -- a node stands there
  unfoldable pub is_node_there : Content V → Bool
  is_node_there Content.variable = false
  is_node_there (Content.leaf v) = false
  is_node_there (Content.node f xs) = true

  -- the first goal that is no atom
  unfoldable pub first_non_atom : List (Cell V) → List ℕ → Option ℕ
  first_non_atom cells [] = None
  first_non_atom cells (g ∷ gs) =
      or_goal (is_node_there (content_at cells (root cells g))) g (first_non_atom cells gs)

  -- a cell is free for the content, or none is
  unfoldable pub next_cell : List (Cell V) → Content V → Bool → Option (Answered V)
  next_cell cells c true = answered (wrote (length cells)) (write cells c)
  next_cell cells c false = answered (refused no_cell) cells

  -- the symbol has 16 bits, or the call is none
  unfoldable pub if_small : Bool → Option (Answered V) → Option (Answered V)
  if_small true rest = rest
  if_small false rest = None

  -- the cells unify, or they clash
  unfoldable pub by_unifying : List (Cell V) → Move V → Option (Answered V)
  by_unifying cells (Move.went s) = answered accepted s.cells
  by_unifying cells (Move.clash s) = answered (refused Refusal.clash) cells

  -- the cells are equal, or they differ
  unfoldable pub by_comparing : List (Cell V) → Move V → Option (Answered V)
  by_comparing cells (Move.went s) = answered same cells
  by_comparing cells (Move.clash s) = answered different cells

  -- a grant leaves the cells of its last point, and all other outcomes the cells as they were
  unfoldable pub left_by : List (Cell V) → List (Cell V) → Outcome → List (Cell V)
  left_by cells last (granted n steps) = last
  left_by cells last (failed n) = cells
  left_by cells last (spent n) = cells
  left_by cells last (full n) = cells
  left_by cells last (short n) = cells

  -- how the search has ended, if its turns sufficed
  unfoldable pub by_searching : List (Cell V) → Option (Ended V) → Option (Answered V)
  by_searching cells None = None
  by_searching cells (Some e) =
      answered (answer_of e.outcome) (left_by cells e.last.cells e.outcome)

  -- the event before those that follow, if they come out
  unfoldable pub before : Event V → Option (List (Event V)) → Option (List (Event V))
  before e None = None
  before e (Some h) = Some (e ∷ h)

  -- the sitting goes on over the cells that the call leaves
  unfoldable pub next_call : Call V → Option (Answered V) → (List (Cell V) → Option (List (Event V))) →
      Option (List (Event V))
  next_call c None go = None
  next_call c (Some a) go = before (record { call = c; answer = a.answer }) (go a.cells)

-- with a sameness of leaf values, over a book, with so many cells supplied, and turns for a search
module _ {V : Type 0} (alike : V → V → Bool) (book : List (Entry V)) (supplied turns : ℕ) where
  -- the limits of a search
  abbrev pub limits_of : List (Cell V) → ℕ → ℕ → Limits
  limits_of cells budget steps =
      record { budget = budget; room = served steps; free = capacity supplied - length cells }

  -- the work list is too short
  abbrev pub short_work : ℕ → Bool
  short_work work = nat_lt work (9 * capacity supplied)

  -- the next cell is written
  unfoldable pub writes : List (Cell V) → Content V → Option (Answered V)
  writes cells c = next_cell cells c (nat_lt (length cells) (capacity supplied))

  -- the answer of a call, and the cells that it leaves
  unfoldable pub answers : List (Cell V) → Call V → Option (Answered V)
  answers cells write_open = writes cells Content.variable
  answers cells (write_leaf v) = writes cells (Content.leaf v)
  answers cells (write_node f args) =
      if_small (nat_lt f 65536) (refusing cells too_many_arguments (nat_lt 4 (length args))
      (if_used cells (first_unused (length cells) args) (writes cells (Content.node f args))))
  answers cells (equate x y work) =
      if_used cells (first_unused (length cells) (x ∷ y ∷ [])) (refusing cells too_short (short_work work)
      (by_unifying cells (Unify.unify alike cells x y)))
  answers cells (compare x y work) =
      if_used cells (first_unused (length cells) (x ∷ y ∷ [])) (refusing cells too_short (short_work work)
      (by_comparing cells (Unify.compare alike cells x y)))
  answers cells (solve goals budget steps work frames) =
      refusing cells too_long (nat_lt 8 (length goals))
      (if_used cells (first_unused (length cells) goals) (if_atoms cells (first_non_atom cells goals)
      (refusing cells too_short (short_work work || nat_lt frames (served steps))
      (by_searching cells
      (solves alike book (length cells) (limits_of cells budget steps) turns cells goals)))))
  answers cells (check goals steps work frames) =
      refusing cells too_long (nat_lt 8 (length goals) || nat_lt 4096 (length steps))
      (if_used cells (first_unused (length cells) goals) (if_atoms cells (first_non_atom cells goals)
      (refusing cells too_short (short_work work || nat_lt frames (length steps))
      (answered
      (answer_to (checks alike book (length cells) (capacity supplied - length cells) cells goals steps))
      cells))))

  -- the sitting that the calls make over the cells
  unfoldable pub sits : List (Call V) → List (Cell V) → Option (List (Event V))
  sits [] cells = Some []
  sits (c ∷ cs) cells = next_call c (answers cells c) (sits cs)
