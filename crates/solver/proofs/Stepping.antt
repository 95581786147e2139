-- How many cells are in use.
use Rattle.std.proofs.Common.{◌≡◌, ℕ, ◌≤◌, List, length, take, arith, length-take}
use lib.ListN.{length-map}
use Rattle.cells.specs.declared.cell.Cell.{Cell}
use Rattle.cells.specs.Cells.{cell_of, cells_of}

-- as many cells as are in use
pub in_use_number : {L : Type 0} (n : ℕ) (cells : List (Cell L)) → n ≤ length cells → length (cells_of (take n cells)) ≡ n
in_use_number n cells h = omega (arith, length-map (take n cells) cell_of, length-take n cells)
