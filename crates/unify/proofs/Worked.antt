-- The worked slates, computed.
use Rattle.std.proofs.Common.{refl}
use Rattle.unify.specs.Cells.{content_at, joined_at, rejoin, rank, chase, root}
use Rattle.unify.specs.Unify.{start, link, link_down, next, after, fits, link_if, meet_roots, meet, meet_all, meet_arguments, pay_to, pay, turn, settle, rest, join, unify, compare}
use Rattle.unify.specs.Writing.{write}
use Rattle.unify.specs.Cases.{WorkedCases}

pub worked : WorkedCases
unfolding content_at joined_at rejoin rank chase root start link link_down next after fits link_if meet_roots meet meet_all meet_arguments pay_to pay turn settle rest join unify compare write
worked = record { loops_are_equal = refl; open_cells_differ = refl; equated_they_are_equal = refl; counts_clash = refl }
