-- The table, computed.
use Rattle.std.proofs.Common.{◌≡◌, map, Some, refl}
use Rattle.unify.specs.Cells.{content_at, joined_at, rejoin, rank, chase, root}
use Rattle.unify.specs.Unify.{start, link, link_down, next, after, fits, link_if, meet_roots, meet, meet_all}
use Rattle.unify.specs.Unify.{meet_arguments, pay_to, pay, turn, settle, rest, join, unify, compare}
use Rattle.unify.specs.Writing.{write}
use Rattle.searching.specs.Trying.{content_of, copied, with_entry, with_step, attempt}
use Rattle.searching.specs.Solving.{by_move, by_cells, by_step, by_room, by_budget, by_below, by_left, by_pending}
use Rattle.searching.specs.Solving.{searches, solves}
use Rattle.searching.specs.Checking.{check_move, check_goal, check_cells, check_step, checks_from, checks}
use Rattle.searching.specs.Answering.{refusing, if_used, if_atoms, is_node_there, or_goal, first_non_atom}
use Rattle.searching.specs.Answering.{next_cell, if_small, by_unifying, by_comparing, left_by, by_searching}
use Rattle.searching.specs.Answering.{writes, answers, before, next_call, sits}
use Rattle.searching.specs.Table.{executed, table}

-- each sitting comes out as it is expected
pub computed : map executed table ≡ map (λ c. Some c.sitting) table
unfolding
    content_at joined_at rejoin rank chase root start link link_down next after fits link_if meet_roots meet
    meet_all meet_arguments pay_to pay turn settle rest join unify compare write content_of copied with_entry with_step
    attempt by_move by_cells by_step by_room by_budget by_below by_left by_pending searches solves check_move
    check_goal check_cells check_step checks_from checks refusing if_used if_atoms is_node_there or_goal
    first_non_atom next_cell if_small by_unifying by_comparing left_by by_searching writes answers before next_call
    sits
computed = refl
