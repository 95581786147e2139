-- Where a search stands, and how it ends.
use Rattle.std.specs.Prelude.{◌≡◌, ℕ, Bool, List, Some, Option}
use Rattle.theory.specs.Entries.{Entry}
use Rattle.theory.specs.Search.{Limits, Outcome}
use Rattle.unify.specs.Cells.{Cell}
use Rattle.searching.specs.Solving.{Spot, Ended, searches, solves}
use Rattle.frames.specs.declared.frame.Goal.{Goal}
use Rattle.frames.specs.declared.frame.Frame.{Frame}
use Rattle.frames.specs.declared.frame.Cursor.{Cursor}
use Rattle.frames.specs.Levels.{Represents}

module _ {V : Type 0} (same : V → V → Bool) (book : List (Entry V)) (goals : List ℕ) (used₀ : ℕ)
    (cells₀ : List (Cell V)) (lim : Limits) where
  -- frames, cells and trail are those of a point of the search for the goals, from which it comes to its end
  pub record Searching (frames : List Frame) (n : ℕ) (goal : Option Goal) (c : Cursor) (count : ℕ)
      (cells : List (Cell V)) (trail : List ℕ) : Type 0 where
    pub spot : Spot V
    pub below : List (Spot V)
    pub represents : Represents book goals used₀ cells₀ frames n goal c cells trail spot below
    pub leads : (k : ℕ) (e : Ended V) → searches same book used₀ lim k spot below count ≡ Some e →
        (j : ℕ) × (solves same book used₀ lim j cells₀ goals ≡ Some e)

  -- the search comes to that outcome, over these cells
  pub record EndsAs (o : Outcome) (cells : List (Cell V)) : Type 0 where
    pub turns : ℕ
    pub ended : Ended V
    pub is : solves same book used₀ lim turns cells₀ goals ≡ Some ended
    pub outcome : ended.outcome ≡ o
    pub last : ended.last.cells ≡ cells
