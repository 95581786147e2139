use Rattle.script.specs.Pieces.{to_come}
use Rattle.script.proofs.words.Words.cells_to_colon.Given as goal

abbrev pub decreases-loop-word : goal.decreases-loop-word
decreases-loop-word l = to_come l.self.rest.rest
