-- The calls on a slate, and the answers that they can give.
use Rattle.std.specs.Prelude.{ℕ, List}
use Rattle.theory.specs.Records.{Step}

-- a call, with the lengths of the work list and the frames that it is lent
pub data Call (V : Type 0) : Type 0 where
  write_open : Call V
  write_leaf : (value : V) → Call V
  write_node : (symbol : ℕ) (arguments : List ℕ) → Call V
  equate : (left right work : ℕ) → Call V
  compare : (left right work : ℕ) → Call V
  -- with the length of the record list
  solve : (goals : List ℕ) (budget steps work frames : ℕ) → Call V
  check : (goals : List ℕ) (steps : List Step) (work frames : ℕ) → Call V

-- why a call is refused
pub data Refusal : Type 0 where
  -- of the input
  not_in_use : (cell : ℕ) → Refusal
  too_many_arguments : Refusal
  not_an_atom : (cell : ℕ) → Refusal
  too_long too_short : Refusal
  unlawful_at : (step rule : ℕ) → Refusal
  -- of the state; a search gives its count
  no_cell clash : Refusal
  no_cell_after spent_after full_after : (count : ℕ) → Refusal

-- the number that stands for a refusal
abbrev pub number : Refusal → ℕ
number (not_in_use c) = 1
number too_many_arguments = 2
number (not_an_atom c) = 3
number too_long = 4
number too_short = 5
number (unlawful_at s r) = 6
number no_cell = 20
number clash = 21
number (no_cell_after n) = 20
number (spent_after n) = 22
number (full_after n) = 23

-- what a call answers
pub data Answer : Type 0 where
  wrote : (cell : ℕ) → Answer
  accepted same different : Answer
  grants : (count : ℕ) (record_steps : List Step) → Answer
  fails : (count : ℕ) → Answer
  passes : Answer
  refused : Refusal → Answer

-- a call and its answer
pub record Event (V : Type 0) : Type 0 where
  pub call : Call V
  pub answer : Answer
