-- What the loops over cells and a trail do, by the unifier's steps.
use Rattle.std.specs.Prelude.{◌≡◌, ℕ, ◌+◌, ◌<◌, ◌≤◌, Bool, true, false, List, [], ◌∷◌, ◌++◌, length, take, Some, None, Option, slice_index}
use Rattle.theory.specs.Equations.{Equation, equal, Solvable, Entails}
use Rattle.unify.specs.Cells as C
use Rattle.unify.specs.Unify.{State, Move, went, clash, unify}
use Rattle.unify.specs.Steady.{Steady}
use Rattle.unify.specs.Solved.{Solved}
use Rattle.unify.specs.Theorems.{IsNode}
use Rattle.unify.specs.Meaning.{Means}
use Rattle.cells.specs.declared.cell.Cell.{Cell}
use Rattle.cells.specs.declared.joins.Joins.{Joins}
use Rattle.cells.specs.Cells.{cells_of, AllCounted, WellFormed}

-- the unifier's state, with the first part of a list as its trail
abbrev pub state : {L : Type 0} → List (Cell L) → List ℕ → ℕ → ℕ → State L
state cells work n place = record { cells = cells_of cells; trail = take n work; place = place }

-- a move, by what a function returned
abbrev pub moved : {L : Type 0} → Bool → State L → Move L
moved true s = went s
moved false s = clash s

-- what the loops over cells and a trail rely on
pub record Ready {L : Type 0} (cells : List (Cell L)) (work : List ℕ) (n : ℕ) : Type 0 where
  pub counted : AllCounted cells
  pub steady : Steady (state cells work n 0)
  pub list : length cells ≤ length work
  pub part : n ≤ length work

-- what is asked of two cells that are to be joined or compared: solved cells, and a list with room for the trail
pub record Given {L : Type 0} (cells : List (Cell L)) (work : List ℕ) (a b : ℕ) : Type 0 where
  pub sound : WellFormed cells
  pub list : length cells ≤ length work
  pub first : a < length cells
  pub second : b < length cells

-- the unifier's state, at some place of the trail
abbrev pub at_place : {L : Type 0} → Joins L → ℕ → State L
at_place joins place = state joins.cells.now joins.trail.now joins.used place

-- the same of cells that are being joined
abbrev pub IsReady : {L : Type 0} → Joins L → Type 0
IsReady joins = Ready joins.cells.now joins.trail.now joins.used

-- two cells are given, and nothing is joined yet
pub record Starts {L : Type 0} (joins : Joins L) (a b : ℕ) : Type 0 where
  pub given : Given joins.cells.now joins.trail.now a b
  pub none : joins.used ≡ 0
  pub none_paid : joins.paid ≡ 0

-- still the same cells and the same trail, as many of both
pub record Borrows {L : Type 0} (old new : Joins L) : Type 0 where
  pub cells : new.cells.ghost_name ≡ old.cells.ghost_name
  pub trail : new.trail.ghost_name ≡ old.trail.ghost_name
  pub as_many : length new.cells.now ≡ length old.cells.now
  pub as_long : length new.trail.now ≡ length old.trail.now
  pub open_joins : new.open_joins ≡ old.open_joins

-- the loans are the same, and as much of the trail is paid
pub record Keeps {L : Type 0} (old new : Joins L) : Type 0 where
  pub borrows : Borrows old new
  pub paid : new.paid ≡ old.paid

-- the next entry of the trail was taken, or there was none
abbrev pub TakesEntry : {L : Type 0} → Joins L → Option ℕ → ℕ → Type 0
TakesEntry old (Some cell) paid = (old.paid < old.used) × (cell ≡ slice_index old.trail.now old.paid) × (paid ≡ old.paid + 1)
TakesEntry old None paid = (old.used ≤ old.paid) × (paid ≡ old.paid)

-- so, and nothing else has changed
pub record Takes {L : Type 0} (old : Joins L) (r : Option ℕ) (new : Joins L) : Type 0 where
  pub entry : TakesEntry old r new.paid
  pub cells : new.cells.now ≡ old.cells.now
  pub trail : new.trail.now ≡ old.trail.now
  pub used : new.used ≡ old.used
  pub borrows : Borrows old new

-- what the code returned and left is what a step of the unifier makes of what was there
pub record Stepped {L : Type 0} (step : State L → Move L) (old : Joins L) (r : Bool) (new : Joins L) : Type 0 where
  pub is : (place : ℕ) → moved r (at_place new place) ≡ step (at_place old place)
  pub ready : IsReady new
  pub keeps : Keeps old new

-- what the code returned and left is what a run of the unifier comes to
pub record Came {L : Type 0} (run : Move L) (cells : List (Cell L)) (work : List ℕ)
    (r : Bool) (cells' : List (Cell L)) (work' : List ℕ) (n' : ℕ) : Type 0 where
  pub is : (place : ℕ) × (moved r (state cells' work' n' place) ≡ run)
  pub ready : Ready cells' work' n'
  pub as_many : length cells' ≡ length cells
  pub as_long : length work' ≡ length work

-- the same of cells that are being joined
pub record Ran {L : Type 0} (run : Move L) (old : Joins L) (r : Bool) (new : Joins L) : Type 0 where
  pub is : (place : ℕ) × (moved r (at_place new place) ≡ run)
  pub ready : IsReady new
  pub borrows : Borrows old new

-- the trail that unifying left in a work list
abbrev pub trail_of : Option ℕ → List ℕ → List ℕ
trail_of (Some n) work = take n work
trail_of None work = []

-- what unifying came to: the cells and the trail of the unifier's run, or a clash that left the cells as they were
abbrev pub Unifies : {L : Type 0} → (L → L → Bool) → List (C.Cell L) → ℕ → ℕ → Bool → List (C.Cell L) → List ℕ → Type 0
Unifies alike old a b true new trail =
    (place : ℕ) × (unify alike old a b ≡ went (record { cells = new; trail = trail; place = place }))
Unifies {L} alike old a b false new trail = ((s : State L) × (unify alike old a b ≡ clash s)) × (new ≡ old)

-- what unifying did: the cells mean the new equation too, or no reading meets it and they are as they were
abbrev pub Did : {L : Type 0} → List (C.Cell L) → List (C.Cell L) → ℕ → ℕ → Bool → Type 0
Did {L} old new a b true = Solved new × (length new ≡ length old) ×
    ((es : List (Equation L ℕ)) → Means old es → Solvable (es ++ (equal a b ∷ [])) × Means new (es ++ (equal a b ∷ [])))
Did {L} old new a b false = (new ≡ old) ×
    ((es : List (Equation L ℕ)) → Means old es → Solvable (es ++ (equal a b ∷ [])) → ⊥)

-- what comparing told: whether the cells entail that the two terms are equal
abbrev pub Told : {L : Type 0} → List (C.Cell L) → ℕ → ℕ → Bool → Type 0
Told {L} old a b true = (es : List (Equation L ℕ)) → Means old es → Entails es a b
Told {L} old a b false = (es : List (Equation L ℕ)) → Means old es → Entails es a b → ⊥

-- whether a node was written
abbrev pub TellsNode : {L : Type 0} → C.Content L → Bool → Type 0
TellsNode c true = IsNode c
TellsNode c false = IsNode c → ⊥
