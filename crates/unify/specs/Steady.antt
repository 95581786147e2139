-- What the loops of the unifier rely on, whatever they unify. Assumes nothing.
use Rattle.std.specs.Prelude.{◌≡◌, ◌+◌, ◌<◌, ◌≤◌, List, length}
use Rattle.std.specs.List.{AllByRecursion}
use Rattle.unify.specs.Cells.{Cell, most, unjoined}
use Rattle.unify.specs.Solved.{Lower, Descends, Solved}
use Rattle.unify.specs.Unify.{State, Move, went, clash, clear}

module _ {V : Type 0} where
  -- chains of joins end, the trail names cells, and it has room for every cell that can still be joined
  pub record Steady (s : State V) : Type 0 where
    pub few : length s.cells ≤ most
    pub lower : Lower s.cells
    pub descends : Descends s.cells
    pub trailed : AllByRecursion (λ i. i < length s.cells) s.trail
    pub room : unjoined s.cells + length s.trail ≤ length s.cells
    pub within : s.place ≤ length s.trail

  -- the state that a move comes to, by going on or by a clash
  abbrev pub reached : Move V → State V
  reached (went s) = s
  reached (clash s) = s

  -- steady, with as many cells as before, at the same place of a trail that is no shorter
  pub record StaysSteady (s t : State V) : Type 0 where
    pub steady : Steady t
    pub number : length t.cells ≡ length s.cells
    pub place : t.place ≡ s.place
    pub longer : length s.trail ≤ length t.trail

  -- steady so, and each cell joined is on the trail
  pub record StaysTrailed (s t : State V) : Type 0 where
    pub stays : StaysSteady s t
    pub kept : unjoined t.cells + length t.trail ≡ unjoined s.cells + length s.trail

  -- what a run that went on leaves: as many cells, solved again, and the trail of those that it joined, which taken
  -- back gives the old cells
  pub record WentOn (cells : List (Cell V)) (s : State V) : Type 0 where
    pub solved : Solved s.cells
    pub number : length s.cells ≡ length cells
    pub undone : clear s.trail s.cells ≡ cells
    pub trailed : AllByRecursion (λ i. i < length cells) s.trail
    pub kept : unjoined s.cells + length s.trail ≡ unjoined cells
