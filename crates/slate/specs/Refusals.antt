-- The refusals, as the definitions have them.
use Rattle.std.specs.Prelude.{ℕ}
use Rattle.theory.specs.Calls as T
use Rattle.slate.specs.declared.refusal.Rule.{Rule}
use Rattle.slate.specs.declared.refusal.Rule.TheVariants.{GoalAndMode, ClauseForOuter, LoopOfOuter, EntryForInner}
use Rattle.slate.specs.declared.refusal.Rule.TheVariants.{NonePending, Reading}
use Rattle.slate.specs.declared.refusal.Refusal.{Refusal}
use Rattle.slate.specs.declared.refusal.Refusal.TheVariants.{NotInUse, TooManyArguments, NotAnAtom, TooLong, TooShort}
use Rattle.slate.specs.declared.refusal.Refusal.TheVariants.{Unlawful, NoCell, Clash, NoCellAfter, SpentAfter, FullAfter}

-- the number of a rule, as the definitions have it
abbrev pub rule_number : Rule → ℕ
rule_number GoalAndMode = 2
rule_number ClauseForOuter = 3
rule_number LoopOfOuter = 4
rule_number EntryForInner = 5
rule_number NonePending = 6
rule_number Reading = 7

-- a refusal, as the definitions have it
abbrev pub refusal_of : Refusal → T.Refusal
refusal_of (NotInUse c) = T.not_in_use c
refusal_of TooManyArguments = T.too_many_arguments
refusal_of (NotAnAtom c) = T.not_an_atom c
refusal_of TooLong = T.too_long
refusal_of TooShort = T.too_short
refusal_of (Unlawful s r) = T.unlawful_at s r
refusal_of NoCell = T.no_cell
refusal_of Clash = T.clash
refusal_of (NoCellAfter n) = T.no_cell_after n
refusal_of (SpentAfter n) = T.spent_after n
refusal_of (FullAfter n) = T.full_after n
