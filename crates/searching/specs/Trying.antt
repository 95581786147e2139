-- A step of a record, tried over cells: the entry is copied into the next cells, and the goal is unified.
use Rattle.std.specs.Prelude.{ℕ, zero, suc, ◌+◌, Bool, List, [], ◌∷◌, map, Some, None, Option, slice_index_or}
use Rattle.std.specs.List.{slice_get}
use Rattle.theory.specs.Entries.{Entry, Part}
use Rattle.theory.specs.Records.{Goal, Replay}
use Rattle.theory.specs.Known.{placed}
use Rattle.unify.specs.Cells.{Content, Cell}
use Rattle.unify.specs.Unify.{Move, clash, start, unify}
use Rattle.unify.specs.Writing.{write}

module _ {V : Type 0} where
  -- what is written for a part, whose arguments lie where `at` says
  unfoldable pub content_of : (ℕ → ℕ) → Part V → Content V
  content_of at Part.variable = Content.variable
  content_of at (Part.leaf v) = Content.leaf v
  content_of at (Part.node f args) = Content.node f (map at args)

  -- the cells with the parts after them, in their order
  unfoldable pub copied : (ℕ → ℕ) → List (Cell V) → List (Part V) → List (Cell V)
  copied at cells [] = cells
  copied at cells (p ∷ ps) = copied at (write cells (content_of at p)) ps

-- over a slate that had so many cells in use before the record began
module _ {V : Type 0} (same : V → V → Bool) (book : List (Entry V)) (used : ℕ) where
  -- where the next instance has its j-th cell
  abbrev pub next_at : Replay V → ℕ → ℕ
  next_at r j = used + (r.cells + j)

  -- the goal is unified with the head of a new instance of the entry
  unfoldable pub with_entry : List (Cell V) → Replay V → Goal → Option (Entry V) → Move V
  with_entry cells r g None = clash (start cells)
  with_entry cells r g (Some e) =
      unify same (copied (next_at r) cells e.parts) (placed used r.offsets g.term) (next_at r e.head)

  -- the goal is unified with that of an earlier step
  unfoldable pub with_step : List (Cell V) → Replay V → Goal → ℕ → Move V
  with_step cells r g n =
      unify same cells (placed used r.offsets g.term)
      (placed used r.offsets (slice_index_or r.taken n g.term))

  -- the step of that mode and number, which keeps its rule, is tried
  unfoldable pub attempt : List (Cell V) → Replay V → Goal → ℕ → ℕ → Move V
  attempt cells r g zero n = clash (start cells)
  attempt cells r g (suc zero) n = with_entry cells r g (slice_get book n)
  attempt cells r g (suc (suc zero)) n = with_step cells r g n
  attempt cells r g (suc (suc (suc k))) n = with_entry cells r g (slice_get book n)
