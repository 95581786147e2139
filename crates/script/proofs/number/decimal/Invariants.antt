use Rattle.std.proofs.Common.{◌≤◌, drop}
use Rattle.script.proofs.Digits.{SoFar}
use Rattle.script.proofs.number.decimal.Given as goal

abbrev pub invariant-loop-byte : goal.invariant-loop-byte
invariant-loop-byte l = (l.value ≤ l.most) × SoFar l.word (drop l.byte-index l.word) l.value
