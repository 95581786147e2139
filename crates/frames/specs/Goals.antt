-- The goals that the standing steps leave, as they lie in frames.
use Rattle.std.specs.Prelude.{◌≡◌, ℕ, zero, suc, ◌+◌, ◌<◌, ◌≤◌, true, false, cond, ◌⊎◌, List, [], ◌∷◌, ◌++◌, map, length, drop, Some, None, Option, ◌==◌}
use Rattle.std.specs.List.{slice_get}
use Rattle.std.specs.Option.{option_map}
use Rattle.theory.specs.Entries.{Entry}
use Rattle.theory.specs.Records.{Term, cell, part, goal_below}
use Rattle.theory.specs.Records as T
use Rattle.book.specs.Answers.{goal_at}
use Rattle.searching.proofs.Scopes.{Within}
use Rattle.frames.specs.declared.frame.Goal.{Goal}
use Rattle.frames.specs.declared.frame.Frame.{Frame}

-- one more than the number of a step, or 0 for none
abbrev pub above : Option ℕ → ℕ
above None = 0
above (Some s) = suc s

-- how many cells were in use when a step's instance was made
abbrev pub base_of : Option Frame → ℕ
base_of None = 0
base_of (Some f) = f.used

-- the cell in which a term lies
abbrev pub lies_at : List Frame → Term → ℕ
lies_at frames (cell c) = c
lies_at frames (part s j) = base_of (slice_get frames s) + j

-- the goal of a list, as it lies in a frame
abbrev pub listed_goal : List ℕ → ℕ → Option Goal
listed_goal goals j = option_map (λ c. record { cell = c; inner = false; parent = None; place = j }) (slice_get goals j)

-- a goal, once more and now inner
abbrev pub inner_goal : T.Goal → T.Goal
inner_goal g = record { term = g.term; inner = true; path = [] }

-- the goal of a step that closes a loop, as it lies in a frame
abbrev pub closing_goal : ℕ → Frame → ℕ → Option Goal
closing_goal s f zero = Some (record { cell = f.goal.cell; inner = true; parent = Some s; place = 0 })
closing_goal s f (suc j) = None

module _ {V : Type 0} (book : List (Entry V)) where
  -- the goals that the body of an entry gives
  abbrev pub body_goals : Option (Entry V) → ℕ → T.Goal → List T.Goal
  body_goals None s g = []
  body_goals (Some e) s g = map (goal_below s g) e.body

  -- the goals that a step leaves for the goal that it took: the body goals of its instance or, where it closes a
  -- loop, the same goal, now inner
  abbrev pub left_by : ℕ → Frame → T.Goal → List T.Goal
  left_by s f g = cond (f.step.mode == 2) (inner_goal g ∷ []) (body_goals (slice_get book f.step.number) s g)

  -- the goal at a place among them, as it lies in a frame
  abbrev pub goal_left : ℕ → Frame → ℕ → Option Goal
  goal_left s f j = cond (f.step.mode == 2) (closing_goal s f j)
      (option_map (λ b. record { cell = f.used + b; inner = f.goal.inner; parent = Some s; place = j })
      (goal_at book f.step.number j))

-- a goal of the definitions and the same goal as it lies in a frame, with the steps that it comes from
pub record IsGoal (frames : List Frame) (chain : List ℕ) (g : T.Goal) (goal : Goal) : Type 0 where
  pub inner : g.inner ≡ goal.inner
  pub lies : lies_at frames g.term ≡ goal.cell
  pub within : Within (above goal.parent) g.term
  pub path : goal.inner ≡ false → g.path ≡ chain

-- what is kept of each frame: the goal was left by an earlier step, its place is one of at most eight, it lies in a
-- cell that was in use before the step, and no more than 2,048 were
pub record Link (s : ℕ) (f : Frame) : Type 0 where
  pub lower : above f.goal.parent ≤ s
  pub few : f.goal.place < 8
  pub goal : f.goal.cell < f.used
  pub small : f.used ≤ 2048

module _ {V : Type 0} (book : List (Entry V)) (goals : List ℕ) (frames : List Frame) where
  -- the goals from a place among those that a step left, and then those after the goal that the step took; the
  -- chain is the step, the step that left its goal, and so on to a goal of the list
  abbrev pub Pends : List ℕ → Option ℕ → ℕ → List T.Goal → Type 0
  Pends [] p j l = (p ≡ None) × (l ≡ drop j (map T.goal_at goals))
  Pends (s ∷ chain) p j l =
      (p ≡ Some s) ×
      ((f : Frame) × (g : T.Goal) × (rest : List T.Goal) × (slice_get frames s ≡ Some f) × Link s f ×
      IsGoal frames chain g f.goal × (l ≡ drop j (left_by book s f g) ++ rest) ×
      Pends chain f.goal.parent (suc f.goal.place) rest)

  -- some goals stand there
  abbrev pub Pending : Option ℕ → ℕ → Type 0
  Pending p j = (chain : List ℕ) × (l : List T.Goal) × (length goals ≤ 8) × Pends chain p j l

  -- the goal is one of the list, or one that a step leaves
  abbrev pub Origin : Goal → Type 0
  Origin goal =
      ((goal.parent ≡ None) × (slice_get goals goal.place ≡ Some goal.cell)) ⊎
      ((s : ℕ) × (f : Frame) × (goal.parent ≡ Some s) × (slice_get frames s ≡ Some f) ×
      (goal_left book s f goal.place ≡ Some goal))

  -- the goal is the first of the list
  pub record Current (goal : Goal) (l : List T.Goal) : Type 0 where
    pub chain : List ℕ
    pub first : T.Goal
    pub rest : List T.Goal
    pub list : l ≡ first ∷ rest
    pub is : IsGoal frames chain first goal
    pub few : goal.place < 8
    pub origin : Origin goal
    pub pends : Pends chain goal.parent (suc goal.place) rest

  -- the first goal that was found, or that there is none
  abbrev pub First : Option ℕ → Option Goal → List T.Goal → Type 0
  First from None l = l ≡ []
  First from (Some goal) l = Current goal l × (above goal.parent ≤ above from)

  -- whatever goals stand there, the first of them is found
  abbrev pub NextGoal : Option ℕ → ℕ → Option Goal → Type 0
  NextGoal p j r = (chain : List ℕ) (l : List T.Goal) → Pends chain p j l → First p r l
