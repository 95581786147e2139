-- The numbers that stand for the causes of a fault. Assumes nothing.
use Rattle.std.specs.Prelude.{ℕ}
use Rattle.form.specs.declared.fault.Cause.{Cause}
use Rattle.form.specs.declared.fault.Cause.TheVariants.{PastEnd, WrongTag, WrongLength, WrongCell, WrongLeaf, WrongGoals, TooMuch}

-- the number of a cause
abbrev pub cause_number : Cause → ℕ
cause_number PastEnd = 7
cause_number WrongTag = 8
cause_number WrongLength = 9
cause_number WrongCell = 10
cause_number WrongLeaf = 11
cause_number WrongGoals = 12
cause_number TooMuch = 13
