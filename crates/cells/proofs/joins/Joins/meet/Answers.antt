use Rattle.std.proofs.Common.{◌<◌, ◌≤◌, true, false, ap, ◌∙◌, subst₂}
use Rattle.unify.specs.Unify.{went}
use Rattle.cells.specs.Loops.{at_place}
use Rattle.unify.proofs.Turns.{meet_same, meet_unfit, meet_up, meet_down}
use Rattle.cells.proofs.Steps.{keeps_all, room, fit_at, linked}
use Rattle.cells.proofs.joins.Joins.meet.Goals as goal

pub returns-then-r-t : goal.returns-then-r-t
returns-then-r-t g c = record {
  is = λ place. meet_same g.L.PartialEq.eq c.args.self.now.open_joins (at_place c.args.self.now place) c.args.x c.args.y
      c.root-r.result c.root-t.result c.root-r.ensures.is c.root-t.ensures.is c.if-r-t.true;
  ready = c.requires.ready;
  keeps = keeps_all _;
}

pub returns-then-not-fit : goal.returns-then-not-fit
returns-then-not-fit g c = record {
  is = λ place. meet_unfit g.L.PartialEq.eq c.args.self.now.open_joins (at_place c.args.self.now place) c.args.x c.args.y
      c.root-r.result c.root-t.result c.root-r.ensures.is c.root-t.ensures.is c.if-r-t.false
      (fit_at g.L.PartialEq.eq c.args.self.now.open_joins _ _ _ _ false c.written-c.ensures.is c.written-d.ensures.is
      c.if-not-fit.ensures);
  ready = c.requires.ready;
  keeps = keeps_all _;
}

pub link_down-requires-clause-room : goal.link_down-requires-clause-room
link_down-requires-clause-room g c =
    room _ _ _ c.requires.ready c.args.y c.root-t.result c.root-t.ensures.is c.root-t.ensures.inside

pub link_down-requires-else-rank-clause-room : goal.link_down-requires-else-rank-clause-room
link_down-requires-else-rank-clause-room g c =
    room _ _ _ c.requires.ready c.args.x c.root-r.result c.root-r.ensures.is c.root-r.ensures.inside

pub returns-then-rank : goal.returns-then-rank
returns-then-rank g c =
    linked g.L.PartialEq.eq c.args.self.now _ c.args.x c.args.y c.requires.ready c.requires.first c.requires.second
    (λ place. ap went (c.link_down.ensures.is place) ∙ meet_up g.L.PartialEq.eq c.args.self.now.open_joins
    (at_place c.args.self.now place) c.args.x c.args.y c.root-r.result c.root-t.result
    c.root-r.ensures.is c.root-t.ensures.is c.if-r-t.false
    (fit_at g.L.PartialEq.eq c.args.self.now.open_joins _ _ _ _ true c.written-c.ensures.is c.written-d.ensures.is
    c.if-not-fit.ensures)
    (subst₂ (λ m n. m < n) c.rank.ensures c.rank-2.ensures c.if-rank.true))
    c.link_down.ensures.counted
    (room _ _ _ c.requires.ready c.args.y c.root-t.result c.root-t.ensures.is c.root-t.ensures.inside)
    c.link_down.ensures.one_more c.link_down.ensures.keeps

pub returns-else-rank : goal.returns-else-rank
returns-else-rank g c =
    linked g.L.PartialEq.eq c.args.self.now _ c.args.x c.args.y c.requires.ready c.requires.first c.requires.second
    (λ place. ap went (c.link_down-else-rank.ensures.is place) ∙ meet_down g.L.PartialEq.eq c.args.self.now.open_joins
    (at_place c.args.self.now place) c.args.x c.args.y c.root-r.result c.root-t.result
    c.root-r.ensures.is c.root-t.ensures.is c.if-r-t.false
    (fit_at g.L.PartialEq.eq c.args.self.now.open_joins _ _ _ _ true c.written-c.ensures.is c.written-d.ensures.is
    c.if-not-fit.ensures)
    (subst₂ (λ m n. m ≤ n) c.rank-2.ensures c.rank.ensures c.if-rank.false))
    c.link_down-else-rank.ensures.counted
    (room _ _ _ c.requires.ready c.args.x c.root-r.result c.root-r.ensures.is c.root-r.ensures.inside)
    c.link_down-else-rank.ensures.one_more c.link_down-else-rank.ensures.keeps
