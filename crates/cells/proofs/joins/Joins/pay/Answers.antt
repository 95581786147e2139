use Rattle.std.proofs.Common.{◌∙◌}
use Rattle.cells.specs.Loops.{at_place}
use Rattle.cells.proofs.Steps.{joined_inside, paying, not_paying, keeps_all}
use Rattle.cells.proofs.joins.Joins.pay.Goals as goal

pub meet_arguments-requires-clause-second : goal.meet_arguments-requires-clause-second
meet_arguments-requires-clause-second g c =
    joined_inside _ _ _ c.requires.ready c.args.i c.in-Some.j c.requires.inside c.in-Some.ensures

pub returns-in-None : goal.returns-in-None
returns-in-None g c = record {
  is = λ place. not_paying g.L.PartialEq.eq c.args.self.now.open_joins (at_place c.args.self.now place) c.args.i
      c.in-None.ensures;
  ready = c.requires.ready;
  keeps = keeps_all _;
}

pub returns-in-Some : goal.returns-in-Some
returns-in-Some g c = record {
  is = λ place. c.meet_arguments.ensures.is place
      ∙ paying g.L.PartialEq.eq c.args.self.now.open_joins (at_place c.args.self.now place) c.args.i c.in-Some.j
      c.in-Some.ensures;
  ready = c.meet_arguments.ensures.ready;
  keeps = c.meet_arguments.ensures.keeps;
}
