use Rattle.std.proofs.Common.{◌≡◌, ℕ, length, drop}
use Rattle.unify.specs.Unify.{meet_all}
use Rattle.cells.specs.Loops.{IsReady, Keeps, at_place}
use Rattle.cells.proofs.joins.Joins.meet_all.Given as goal

abbrev pub invariant-loop-x : goal.invariant-loop-x
invariant-loop-x g l = record {
  ready : IsReady l.self;
  keeps : Keeps l.initial.self l.self;
  is : (place : ℕ) → meet_all g.L.PartialEq.eq l.self.open_joins (at_place l.self place)
      (drop (length l.yielded) l.xs) (drop (length l.yielded) l.ys) ≡
      meet_all g.L.PartialEq.eq l.initial.self.open_joins (at_place l.initial.self place) l.xs l.ys;
}
