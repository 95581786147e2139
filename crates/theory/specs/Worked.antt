-- A small book and a few sittings, answer by answer.
use Rattle.std.specs.Prelude.{List, [], ◌∷◌, ◌++◌}
use Rattle.theory.specs.Entries.{Entry, clause, cofact, variable, node}
use Rattle.theory.specs.Records.{Step, step_of}
use Rattle.theory.specs.Calls.{Call, write_open, write_node, equate, compare, solve, check}
use Rattle.theory.specs.Calls.{not_in_use, too_many_arguments, too_short, unlawful_at, no_cell, clash}
use Rattle.theory.specs.Calls.{spent_after, full_after}
use Rattle.theory.specs.Calls.{Answer, wrote, accepted, same, different, grants, fails, passes, refused, Event}

-- the leaf kind does not matter here: none of these terms has a leaf
abbrev pub NoLeaf : Type 0
NoLeaf = ⊥

infixl 20 ◌gives◌
-- a call and its answer
abbrev pub ◌gives◌ : Call NoLeaf → Answer → Event NoLeaf
◌gives◌ c a = record { call = c; answer = a }

-- co-fact q(X); the symbols are p 0, q 1, z 2 and s 3
abbrev pub q_fact : Entry NoLeaf
q_fact = record { kind = cofact; parts = variable ∷ node 1 (0 ∷ []) ∷ []; head = 1; body = [] }

-- clause p(z) :- q(X)
abbrev pub p_clause : Entry NoLeaf
p_clause = record {
  kind = clause;
  parts = node 2 [] ∷ node 0 (0 ∷ []) ∷ variable ∷ node 1 (2 ∷ []) ∷ [];
  head = 1;
  body = 3 ∷ [];
}

-- clause q(s(X)) :- q(X)
abbrev pub q_clause : Entry NoLeaf
q_clause = record {
  kind = clause;
  parts = variable ∷ node 3 (0 ∷ []) ∷ node 1 (1 ∷ []) ∷ node 1 (0 ∷ []) ∷ [];
  head = 2;
  body = 3 ∷ [];
}

-- the three of them
abbrev pub book_a : List (Entry NoLeaf)
book_a = q_fact ∷ p_clause ∷ q_clause ∷ []

-- the record that solve finds for p(z)
abbrev pub record_a : List Step
record_a = step_of 1 1 ∷ step_of 1 2 ∷ step_of 2 1 ∷ step_of 3 0 ∷ []

-- p(z) is cell 1: two records that are refused, and the lawful one
abbrev pub checks_a : List (Event NoLeaf)
checks_a =
    (check (1 ∷ []) (step_of 1 1 ∷ step_of 1 2 ∷ step_of 3 0 ∷ []) 900 3 gives refused (unlawful_at 2 5))
    ∷ (check (1 ∷ []) (step_of 1 1 ∷ step_of 2 0 ∷ []) 900 2 gives refused (unlawful_at 1 7))
    ∷ (check (1 ∷ []) record_a 900 4 gives passes)
    ∷ []

-- a search that lacks a try, one that lacks a record step, and one that has both
abbrev pub searches_a : List (Event NoLeaf)
searches_a =
    (solve (1 ∷ []) 5 10 900 10 gives refused (spent_after 5))
    ∷ (solve (1 ∷ []) 100 3 900 3 gives refused (full_after 5))
    ∷ (solve (1 ∷ []) 6 4 900 4 gives grants 6 record_a)
    ∷ []

-- a sitting over book A
abbrev pub sitting_a : List (Event NoLeaf)
sitting_a =
    (write_node 2 [] gives wrote 0) ∷ (write_node 0 (0 ∷ []) gives wrote 1) ∷ (checks_a ++ searches_a)

-- X = s(X) and Y = s(s(Y)) have the same tree
abbrev pub looping_sitting : List (Event NoLeaf)
looping_sitting =
    (write_open gives wrote 0)
    ∷ (write_node 3 (0 ∷ []) gives wrote 1)
    ∷ (equate 0 1 900 gives accepted)
    ∷ (write_open gives wrote 2)
    ∷ (write_node 3 (2 ∷ []) gives wrote 3)
    ∷ (write_node 3 (3 ∷ []) gives wrote 4)
    ∷ (equate 2 4 900 gives accepted)
    ∷ (compare 0 2 900 gives same)
    ∷ []

-- two open cells differ until they are equated
abbrev pub open_sitting : List (Event NoLeaf)
open_sitting =
    (write_open gives wrote 0)
    ∷ (write_open gives wrote 1)
    ∷ (compare 0 1 900 gives different)
    ∷ (equate 0 1 900 gives accepted)
    ∷ (compare 0 1 900 gives same)
    ∷ []

-- s(z) and s(z,z) clash; no goals are granted at once, z fails over an empty book, and a slate of three cells
-- is full
abbrev pub refusing_sitting : List (Event NoLeaf)
refusing_sitting =
    (write_node 2 [] gives wrote 0)
    ∷ (write_node 3 (0 ∷ []) gives wrote 1)
    ∷ (write_node 3 (0 ∷ 0 ∷ []) gives wrote 2)
    ∷ (equate 1 2 27 gives refused clash)
    ∷ (solve [] 0 0 27 0 gives grants 0 [])
    ∷ (solve (0 ∷ []) 0 0 27 0 gives fails 0)
    ∷ (equate 1 7 5 gives refused (not_in_use 7))
    ∷ (equate 1 2 26 gives refused too_short)
    ∷ (write_node 2 (9 ∷ 0 ∷ 0 ∷ 0 ∷ 0 ∷ []) gives refused too_many_arguments)
    ∷ (write_open gives refused no_cell)
    ∷ []
