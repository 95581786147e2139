use Rattle.std.proofs.lemmas.List.{take_more_set}
use Rattle.unify.specs.Unify.{link}
use Rattle.cells.proofs.joins.Joins.link_down.Goals as goal

pub returns-clause-is : goal.returns-clause-is
unfolding link
returns-clause-is g c = λ place k. record {
  cells = c.rejoin.ensures.is k;
  trail = take_more_set c.args.self.now.trail.now c.args.self.now.used c.args.high c.requires.room k;
  place = place;
}
