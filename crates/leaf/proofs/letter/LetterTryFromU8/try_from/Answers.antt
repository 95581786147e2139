use Rattle.std.proofs.Common.{arith}
use Rattle.leaf.specs.Letters.{letter_in, letter_past}
use Rattle.leaf.proofs.letter.LetterTryFromU8.try_from.Goals as goal

pub returns-in-65-to-90 : goal.returns-in-65-to-90
returns-in-65-to-90 c = letter_in c.args.byte _ (omega arith) (omega arith)

pub returns-in_default-2 : goal.returns-in_default-2
returns-in_default-2 c = letter_past c.args.byte (omega arith)
