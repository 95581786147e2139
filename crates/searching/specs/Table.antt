-- The worked cases: a table of books, calls and expected answers, with numbers for leaves.
use Rattle.std.specs.Prelude.{ℕ, List, [], ◌∷◌, ◌++◌, map, Option, nat_eq}
use Rattle.theory.specs.Entries.{Entry, clause, cofact, variable, node}
use Rattle.theory.specs.Records.{Step, step_of}
use Rattle.theory.specs.Calls.{Call, write_open, write_leaf, write_node, equate, compare, solve, check}
use Rattle.theory.specs.Calls.{too_many_arguments, too_long, unlawful_at, clash, spent_after, full_after}
use Rattle.theory.specs.Calls.{Answer, wrote, accepted, same, different, grants, fails, passes, refused, Event}
use Rattle.searching.specs.Answering.{sits}

-- a book, a number of cells, and calls with the answers that are expected
pub record Case : Type 0 where
  pub book : List (Entry ℕ)
  pub supplied : ℕ
  pub sitting : List (Event ℕ)

-- the sitting that the calls of a case make, with 100 turns for each search
abbrev pub executed : Case → Option (List (Event ℕ))
executed c = sits nat_eq c.book c.supplied 100 (map (λ e. e.call) c.sitting) []

infixl 20 ◌gives◌
-- a call and its answer
abbrev pub ◌gives◌ : Call ℕ → Answer → Event ℕ
◌gives◌ c a = record { call = c; answer = a }

-- a case on a slate of 100 cells
abbrev pub case_of : List (Entry ℕ) → List (Event ℕ) → Case
case_of book sitting = record { book = book; supplied = 100; sitting = sitting }

-- co-fact q(X); the symbols of book A are p 0, q 1, z 2 and s 3
abbrev pub q_fact : Entry ℕ
q_fact = record { kind = cofact; parts = variable ∷ node 1 (0 ∷ []) ∷ []; head = 1; body = [] }

-- clause p(z) :- q(X)
abbrev pub p_clause : Entry ℕ
p_clause = record {
  kind = clause;
  parts = node 2 [] ∷ node 0 (0 ∷ []) ∷ variable ∷ node 1 (2 ∷ []) ∷ [];
  head = 1;
  body = 3 ∷ [];
}

-- clause q(s(X)) :- q(X)
abbrev pub q_clause : Entry ℕ
q_clause = record {
  kind = clause;
  parts = variable ∷ node 3 (0 ∷ []) ∷ node 1 (1 ∷ []) ∷ node 1 (0 ∷ []) ∷ [];
  head = 2;
  body = 3 ∷ [];
}

-- book A
abbrev pub book_a : List (Entry ℕ)
book_a = q_fact ∷ p_clause ∷ q_clause ∷ []

-- p(z) is cell 1
abbrev pub p_of_z : List (Event ℕ)
p_of_z = (write_node 2 [] gives wrote 0) ∷ (write_node 0 (0 ∷ []) gives wrote 1) ∷ []

-- the record that solve finds for p(z)
abbrev pub record_a : List Step
record_a = step_of 1 1 ∷ step_of 1 2 ∷ step_of 2 1 ∷ step_of 3 0 ∷ []

-- searches for p(z): one lacks a try, one lacks a record step, and one is granted after 6 tries
abbrev pub searches_a : List (Event ℕ)
searches_a =
    (solve (1 ∷ []) 5 10 900 10 gives refused (spent_after 5))
    ∷ (solve (1 ∷ []) 40 3 900 3 gives refused (full_after 5))
    ∷ (solve (1 ∷ []) 40 10 900 10 gives grants 6 record_a)
    ∷ []

-- records for p(z): one takes an outer goal by mode 3, one closes a loop that no reading meets, one is lawful
abbrev pub checks_a : List (Event ℕ)
checks_a =
    (check (1 ∷ []) (step_of 1 1 ∷ step_of 1 2 ∷ step_of 3 0 ∷ []) 900 3 gives refused (unlawful_at 2 5))
    ∷ (check (1 ∷ []) (step_of 1 1 ∷ step_of 2 0 ∷ []) 900 2 gives refused (unlawful_at 1 7))
    ∷ (check (1 ∷ []) record_a 900 4 gives passes)
    ∷ []

-- without the co-fact the search for p(z) never ends by itself
abbrev pub search_without : List (Event ℕ)
search_without = (solve (1 ∷ []) 20 100 900 100 gives refused (spent_after 20)) ∷ []

-- co-fact fine(X); the symbols of book F are fine 0, ok 1, run 2, send 3, commit 4 and dup 5
abbrev pub fine_fact : Entry ℕ
fine_fact = record { kind = cofact; parts = variable ∷ node 0 (0 ∷ []) ∷ []; head = 1; body = [] }

-- clause fine(run(E,T)) :- ok(E), fine(T)
abbrev pub fine_clause : Entry ℕ
fine_clause = record {
  kind = clause;
  parts =
      variable ∷ variable ∷ node 2 (0 ∷ 1 ∷ []) ∷ node 0 (2 ∷ []) ∷ node 1 (0 ∷ []) ∷ node 0 (1 ∷ []) ∷ [];
  head = 3;
  body = 4 ∷ 5 ∷ [];
}

-- clause ok(w), for the word w
abbrev pub ok_clause : ℕ → Entry ℕ
ok_clause w = record { kind = clause; parts = node w [] ∷ node 1 (0 ∷ []) ∷ []; head = 1; body = [] }

-- book F, where send and commit are ok
abbrev pub book_f : List (Entry ℕ)
book_f = fine_fact ∷ fine_clause ∷ ok_clause 3 ∷ ok_clause 4 ∷ []

-- fine(L), where L = run(send, run(w, L)) for the word w, is cell 5
abbrev pub a_loop : ℕ → List (Event ℕ)
a_loop w =
    (write_open gives wrote 0)
    ∷ (write_node 3 [] gives wrote 1)
    ∷ (write_node w [] gives wrote 2)
    ∷ (write_node 2 (2 ∷ 0 ∷ []) gives wrote 3)
    ∷ (write_node 2 (1 ∷ 3 ∷ []) gives wrote 4)
    ∷ (equate 0 4 900 gives accepted)
    ∷ (write_node 0 (0 ∷ []) gives wrote 5)
    ∷ []

-- the record that solve finds for the loop of send and commit
abbrev pub record_f : List Step
record_f = step_of 1 1 ∷ step_of 1 2 ∷ step_of 1 1 ∷ step_of 1 3 ∷ step_of 2 0 ∷ step_of 3 0 ∷ []

-- the loop of send and commit is granted
abbrev pub search_commit : List (Event ℕ)
search_commit = (solve (5 ∷ []) 40 10 900 10 gives grants 14 record_f) ∷ []

-- the loop of send and dup fails, where its tries suffice
abbrev pub search_dup : List (Event ℕ)
search_dup =
    (solve (5 ∷ []) 15 10 900 10 gives refused (spent_after 15))
    ∷ (solve (5 ∷ []) 40 10 900 10 gives fails 16)
    ∷ []

-- X = s(X) and Y = s(s(Y)) are accepted, and X and Y are equal
abbrev pub looping : List (Event ℕ)
looping =
    (write_open gives wrote 0)
    ∷ (write_node 3 (0 ∷ []) gives wrote 1)
    ∷ (equate 0 1 900 gives accepted)
    ∷ (write_open gives wrote 2)
    ∷ (write_node 3 (2 ∷ []) gives wrote 3)
    ∷ (write_node 3 (3 ∷ []) gives wrote 4)
    ∷ (equate 2 4 900 gives accepted)
    ∷ (compare 0 2 900 gives same)
    ∷ []

-- two open cells are not equal, and once equated they are
abbrev pub two_open : List (Event ℕ)
two_open =
    (write_open gives wrote 0)
    ∷ (write_open gives wrote 1)
    ∷ (compare 0 1 900 gives different)
    ∷ (equate 0 1 900 gives accepted)
    ∷ (compare 0 1 900 gives same)
    ∷ []

-- s(z) and s(z,z) clash, and so do two leaves of different values
abbrev pub clashing : List (Event ℕ)
clashing =
    (write_node 2 [] gives wrote 0)
    ∷ (write_node 3 (0 ∷ []) gives wrote 1)
    ∷ (write_node 3 (0 ∷ 0 ∷ []) gives wrote 2)
    ∷ (equate 1 2 900 gives refused clash)
    ∷ (write_leaf 7 gives wrote 3)
    ∷ (write_leaf 8 gives wrote 4)
    ∷ (equate 3 4 900 gives refused clash)
    ∷ []

-- no goals are granted with no tries; five arguments and nine goals are too many
abbrev pub at_once : List (Event ℕ)
at_once =
    (solve [] 0 0 900 0 gives grants 0 [])
    ∷ (write_node 2 [] gives wrote 0)
    ∷ (write_node 3 (0 ∷ 0 ∷ 0 ∷ 0 ∷ 0 ∷ []) gives refused too_many_arguments)
    ∷ (solve (0 ∷ 0 ∷ 0 ∷ 0 ∷ 0 ∷ 0 ∷ 0 ∷ 0 ∷ 0 ∷ []) 9 9 900 9 gives refused too_long)
    ∷ []

-- the worked cases
abbrev pub table : List Case
table =
    case_of book_a (p_of_z ++ searches_a)
    ∷ case_of book_a (p_of_z ++ checks_a)
    ∷ case_of (p_clause ∷ q_clause ∷ []) (p_of_z ++ search_without)
    ∷ case_of book_f (a_loop 4 ++ search_commit)
    ∷ case_of book_f (a_loop 5 ++ search_dup)
    ∷ case_of [] looping
    ∷ case_of [] two_open
    ∷ case_of [] clashing
    ∷ case_of [] at_once
    ∷ []
