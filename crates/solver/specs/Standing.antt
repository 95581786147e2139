-- Where a search or a check stands.
use Rattle.std.specs.Prelude.{ℕ, Option}
use Rattle.attempts.specs.declared.extent.Extent.{Extent}
use Rattle.frames.specs.declared.frame.Goal.{Goal}
use Rattle.frames.specs.declared.frame.Cursor.{Cursor}

-- how many steps stand, how far they fill the cells and the trail, and the goal that is to be taken next, if any
pub record Standing : Type 0 where
  pub depth : ℕ
  pub extent : Extent
  pub goal : Option Goal

-- a point of a search: where it stands, which tries of the goal are left, and how many tries were made
pub record Moment : Type 0 where
  pub at : Standing
  pub cursor : Cursor
  pub count : ℕ
