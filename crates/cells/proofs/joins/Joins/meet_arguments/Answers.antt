use Rattle.std.proofs.Common.{◌<◌, length, sym, ◌∙◌, subst}
use Rattle.std.specs.List.{AllByRecursion}
use Rattle.unify.specs.Unify.{meet_all}
use Rattle.cells.specs.Loops.{at_place}
use Rattle.cells.proofs.Steps.{arguments_in, arguments_read}
use Rattle.cells.proofs.joins.Joins.meet_arguments.Goals as goal

pub meet_all-requires-clause-first : goal.meet_all-requires-clause-first
meet_all-requires-clause-first g c = subst (AllByRecursion (λ x. x < length c.args.self.now.cells.now))
    (sym c.arguments.ensures) (arguments_in _ _ _ c.requires.ready c.args.i c.written-c.result c.written-c.ensures.is)

pub meet_all-requires-clause-second : goal.meet_all-requires-clause-second
meet_all-requires-clause-second g c = subst (AllByRecursion (λ x. x < length c.args.self.now.cells.now))
    (sym c.arguments-2.ensures) (arguments_in _ _ _ c.requires.ready c.args.j c.written-d.result c.written-d.ensures.is)

pub returns : goal.returns
returns g c =
    let j = c.args.self.now in
    record {
      is = λ place. c.meet_all.ensures.is place
          ∙ ((λ k. meet_all g.L.PartialEq.eq j.open_joins (at_place j place) (c.arguments.ensures k) (c.arguments-2.ensures k))
          ∙ arguments_read g.L.PartialEq.eq j.open_joins (at_place j place) c.written-c.result c.written-d.result _ _
          c.written-c.ensures.is c.written-d.ensures.is);
      ready = c.meet_all.ensures.ready;
      keeps = c.meet_all.ensures.keeps;
    }
