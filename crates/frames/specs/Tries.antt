-- The tries that are left of a goal, as a cursor tells.
use Rattle.std.specs.Prelude.{◌≡◌, ℕ, suc, ◌<◌, ◌≤◌, Bool, true, false, cond, ◌⊎◌, List, [], ◌∷◌, ◌++◌, map, drop, Some, None, Option, ◌==◌}
use Rattle.std.specs.List.{slice_get}
use Rattle.theory.specs.Entries.{Entry, clause, cofact}
use Rattle.theory.specs.Records.{step_of, member}
use Rattle.theory.specs.Records as T
use Rattle.theory.specs.Search.{clauses_from, entries_from}
use Rattle.calls.specs.declared.step.Step.{Step}
use Rattle.frames.specs.declared.frame.Goal.{Goal}
use Rattle.frames.specs.declared.frame.Frame.{Frame}
use Rattle.frames.specs.declared.frame.Cursor.{Cursor}
use Rattle.frames.specs.Goals.{above, Link}

-- the mode by which an outer or an inner goal takes an entry
abbrev pub mode_of : Bool → ℕ
mode_of inner = cond inner 3 1

-- the step by which a goal's step left its goal, if there is such a step
abbrev pub parent_of : Option Frame → Option ℕ
parent_of None = None
parent_of (Some f) = f.goal.parent

-- the tries that are left after one
abbrev pub cursor_after : List Frame → Step → Cursor
cursor_after frames x =
    cond (x.mode == 2) (record { path = parent_of (slice_get frames x.number); entry = 0 })
    (record { path = None; entry = suc x.number })

-- a step that closes a loop names one of n steps; no step names more than 16 bits can
abbrev pub Named : ℕ → Step → Type 0
Named n x = (x.mode ≡ 2 → x.number < n) × (x.number < 65535)

module _ {V : Type 0} (book : List (Entry V)) where
  -- the tries of entries from a number on: all for an inner goal, the clauses for an outer one
  abbrev pub entries_left : Bool → ℕ → List T.Step
  entries_left false k = clauses_from k (drop k book)
  entries_left true k = entries_from k (drop k book)

  -- whether there is such an entry, and it is a clause
  abbrev pub IsClause : ℕ → Bool → Type 0
  IsClause k true = (e : Entry V) × (slice_get book k ≡ Some e) × (e.kind ≡ clause)
  IsClause k false = (e : Entry V) → slice_get book k ≡ Some e → e.kind ≡ cofact

  -- whether a goal may try the entry: any for an inner goal, a clause for an outer one
  abbrev pub MayTry : Bool → ℕ → Bool → Type 0
  MayTry true k r = r ≡ true
  MayTry false k r = IsClause k r

  -- the entry can be taken by the goal
  pub record Takes (inner : Bool) (k : ℕ) : Type 0 where
    pub entry : Entry V
    pub found : slice_get book k ≡ Some entry
    pub outer : inner ≡ false → entry.kind ≡ clause
    pub few : k < 1024

  -- the first of these tries, or that there is none
  abbrev pub NextEntry : Bool → ℕ → Option ℕ → Type 0
  NextEntry inner from None = entries_left inner from ≡ []
  NextEntry inner from (Some k) =
      (entries_left inner from ≡ step_of (mode_of inner) k ∷ entries_left inner (suc k)) × Takes inner k

  -- the next try: a step on the path, or an entry
  abbrev pub NextTry : Bool → Cursor → Option Step → Type 0
  NextTry inner c None = (c.path ≡ None) × (entries_left inner c.entry ≡ [])
  NextTry inner c (Some x) =
      ((x.mode ≡ 2) × (c.path ≡ Some x.number)) ⊎
      ((c.path ≡ None) × (x.mode ≡ mode_of inner) × NextEntry inner c.entry (Some x.number))

module _ (frames : List Frame) where
  -- a step, the step that left its goal, and so on to a goal of the list
  abbrev pub Chain : List ℕ → Option ℕ → Type 0
  Chain [] p = p ≡ None
  Chain (s ∷ chain) p =
      (p ≡ Some s) × ((f : Frame) × (slice_get frames s ≡ Some f) × Link s f × Chain chain f.goal.parent)

  -- there is such a chain
  abbrev pub Chained : Option ℕ → Type 0
  Chained p = (chain : List ℕ) × Chain chain p

  -- whether the number is one of the chain, whatever the chain
  abbrev pub OnPath : Option ℕ → ℕ → Bool → Type 0
  OnPath p s r = (chain : List ℕ) → Chain chain p → r ≡ member s chain

-- all tries of a goal
abbrev pub first_cursor : Goal → Cursor
first_cursor goal = record { path = cond goal.inner None goal.parent; entry = 0 }

-- the tries that the cursor leaves of a goal with that path, where n steps stand
pub record Leftover {V : Type 0} (book : List (Entry V)) (frames : List Frame) (n : ℕ) (inner : Bool)
    (path : List ℕ) (c : Cursor) (left : List T.Step) : Type 0 where
  pub chain : List ℕ
  pub lower : above c.path ≤ n
  pub chained : Chain frames chain c.path
  pub fresh : (s : ℕ) → c.path ≡ Some s → c.entry ≡ 0
  pub before : List ℕ
  pub on_path : path ≡ before ++ chain
  pub inner_none : inner ≡ true → chain ≡ []
  pub is : left ≡ map (step_of 2) chain ++ entries_left book inner c.entry

-- the step closes a loop with a step on the path, or takes an entry that the goal may take; n steps stand
abbrev pub Allowed : {V : Type 0} → List (Entry V) → List Frame → ℕ → Bool → List ℕ → Step → Type 0
Allowed book frames n inner path x =
    ((x.mode ≡ 2) × (inner ≡ false) × (member x.number path ≡ true) × (x.number < n)) ⊎
    ((x.mode ≡ mode_of inner) × Takes book inner x.number)
