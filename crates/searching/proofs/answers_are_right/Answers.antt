use Rattle.searching.proofs.Answered.{answers_right}
use Rattle.searching.proofs.answers_are_right.Goals as goal

pub returns : goal.returns
returns g c = answers_right _
