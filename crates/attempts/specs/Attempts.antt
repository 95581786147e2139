-- What a try of a goal does to the cells and the trail.
use Rattle.std.specs.Prelude.{◌≡◌, ℕ, ◌+◌, ◌<◌, ◌≤◌, Bool, true, false, List, [], ◌++◌, length, take, drop, Some, None, Option}
use Rattle.std.specs.List.{slice_get, AllByRecursion}
use Rattle.theory.specs.Entries.{Entry, Part, IsNode}
use Rattle.unify.specs.Cells as C
use Rattle.unify.specs.Cells.{content_at, root}
use Rattle.unify.specs.Solved.{Solved}
use Rattle.unify.specs.Unify.{State, went, clash, fits, unify, clear}
use Rattle.searching.specs.Trying.{copied}
use Rattle.searching.specs.Trying as M
use Rattle.cells.specs.declared.cell.Content.{Content}
use Rattle.cells.specs.declared.cell.Cell.{Cell}
use Rattle.cells.specs.Cells.{cells_of, content_of, Counted, WellFormed}
use Rattle.book.specs.declared.entry.EntryCell.{EntryCell}
use Rattle.book.specs.declared.entry.EntryCell.TheVariants.{Variable, Leaf, Node}
use Rattle.book.specs.Answers.{part_of, listed}
use Rattle.attempts.specs.declared.extent.Extent.{Extent}

-- the cells of an entry, if there is such an entry
abbrev pub parts_in : {V : Type 0} → Option (Entry V) → List (Part V)
parts_in None = []
parts_in (Some e) = e.parts

-- the cells of the entry with that number
abbrev pub parts_at : {V : Type 0} → List (Entry V) → ℕ → List (Part V)
parts_at book k = parts_in (slice_get book k)

-- a node of an entry has at most four arguments
abbrev pub FewArguments : {V : Type 0} → EntryCell V → Type 0
FewArguments Variable = Unit {0}
FewArguments (Leaf v) = Unit {0}
FewArguments (Node n) = length (listed n.args) ≤ 4

module _ {L : Type 0} where
  -- an entry's cell as it is written behind so many cells
  pub record Written (base : ℕ) (from : EntryCell L) (to : Content L) : Type 0 where
    pub is : content_of to ≡ M.content_of (λ j. base + j) (part_of from)
    pub counted : Counted to

  -- what is asked where an entry of so many cells is to be copied behind the first cells
  pub record Copyable (book : List (Entry L)) (entry count : ℕ) (cells : List (Cell L)) (base : ℕ) : Type 0 where
    pub whole : count ≡ length (parts_at book entry)
    pub fits : base + count ≤ length cells
    pub few : base + count ≤ 2048
    pub sound : WellFormed (take base cells)

  -- the entry's cells stand behind the first ones
  pub record Copied (parts : List (Part L)) (cells : List (Cell L)) (base count : ℕ)
      (cells' : List (Cell L)) : Type 0 where
    pub is : cells_of (take (base + count) cells') ≡ copied (λ j. base + j) (cells_of (take base cells)) parts
    pub sound : WellFormed (take (base + count) cells')
    pub as_many : length cells' ≡ length cells

  -- what is asked where two of the first so many cells are to be unified, with so many joins on the trail
  pub record Unifiable (cells : List (Cell L)) (used : ℕ) (work : List ℕ) (trail a b : ℕ) : Type 0 where
    pub sound : WellFormed (take used cells)
    pub fits : used ≤ length cells
    pub room : trail + used ≤ length work
    pub first : a < used
    pub second : b < used

  -- they were unified, and the trail tells what was joined; or they clash, and the cells and the trail are as they were
  abbrev pub Joined : (L → L → Bool) → List (C.Cell L) → ℕ → ℕ → List ℕ → Bool → List (C.Cell L) → List ℕ → Type 0
  Joined alike old a b trail true new trail' =
      (s : State L) × (unify alike old a b ≡ went s) × (new ≡ s.cells) × (trail' ≡ trail ++ s.trail)
  Joined alike old a b trail false new trail' =
      ((s : State L) × (unify alike old a b ≡ clash s)) × (new ≡ old) × (trail' ≡ trail)

  -- what unifying them comes to
  pub record UnifiedOn (alike : L → L → Bool) (a b : ℕ) (r : Bool) (used : ℕ)
      (cells : List (Cell L)) (work : List ℕ) (trail : ℕ)
      (cells' : List (Cell L)) (work' : List ℕ) (trail' : ℕ) : Type 0 where
    pub joined : Joined alike (cells_of (take used cells)) a b (take trail work) r
        (cells_of (take used cells')) (take trail' work')
    pub sound : WellFormed (take used cells')
    pub room : trail' ≤ length work'
    pub as_many : length cells' ≡ length cells
    pub as_long : length work' ≡ length work

  -- whether the head of an entry, as it would be written behind the cells, can be joined to the goal's root
  abbrev pub HeadFits : (L → L → Bool) → List (Entry L) → ℕ → ℕ → List (C.Cell L) → ℕ → Bool → Type 0
  HeadFits alike book entry head cells goal r =
      (p : Part L) → slice_get (parts_at book entry) head ≡ Some p → IsNode (Some p) →
      r ≡ fits alike true (content_at cells (root cells goal)) (M.content_of (λ j. length cells + j) p)

  -- what is asked of a try that needs so many new cells
  pub record Tryable (cells : List (Cell L)) (work : List ℕ) (x : Extent) (count goal : ℕ) : Type 0 where
    pub sound : WellFormed (take x.used cells)
    pub fits : x.used + count ≤ length cells
    pub few : x.used + count ≤ 2048
    pub room : x.trail + (x.used + count) ≤ length work
    pub inside : goal < x.used

  -- the try stands, with the cells that unifying leaves and a trail that tells what it joined; or it falls, and the
  -- cells and the trail are as they were
  abbrev pub Tried : (L → L → Bool) → List (C.Cell L) → List (Part L) → ℕ → ℕ → List ℕ → Bool →
      List (C.Cell L) → List ℕ → Type 0
  Tried alike old parts a b trail true new trail' =
      Joined alike (copied (λ j. length old + j) old parts) a b trail true new trail'
  Tried alike old parts a b trail false new trail' =
      ((s : State L) × (unify alike (copied (λ j. length old + j) old parts) a b ≡ clash s)) ×
      (new ≡ old) × (trail' ≡ trail)

  -- what a try comes to
  pub record Attempted (alike : L → L → Bool) (parts : List (Part L)) (a b : ℕ) (r : Bool)
      (cells : List (Cell L)) (work : List ℕ) (x : Extent)
      (cells' : List (Cell L)) (work' : List ℕ) (x' : Extent) : Type 0 where
    pub tried : Tried alike (cells_of (take x.used cells)) parts a b (take x.trail work) r
        (cells_of (take x'.used cells')) (take x'.trail work')
    pub sound : WellFormed (take x'.used cells')
    pub fits : x'.used ≤ length cells'
    pub room : x'.trail ≤ length work'
    pub as_many : length cells' ≡ length cells
    pub as_long : length work' ≡ length work

  -- what is asked where all since an earlier extent is to be taken back: the cells of then were solved
  pub record Retractable (cells : List (Cell L)) (work : List ℕ) (x to : Extent) : Type 0 where
    pub sound : WellFormed (take x.used cells)
    pub fits : x.used ≤ length cells
    pub room : x.trail ≤ length work
    pub used : to.used ≤ x.used
    pub trail : to.trail ≤ x.trail
    pub inside : AllByRecursion (λ i. i < x.used) (take x.trail work)
    pub solved : Solved (take to.used (clear (drop to.trail (take x.trail work))
        (cells_of (take x.used cells))))

  -- the joins since then are taken back, and the cells since then are out of use
  pub record Retracted (cells : List (Cell L)) (work : List ℕ) (x to : Extent) (cells' : List (Cell L)) : Type 0 where
    pub is : cells_of (take to.used cells') ≡
        take to.used (clear (drop to.trail (take x.trail work)) (cells_of (take x.used cells)))
    pub sound : WellFormed (take to.used cells')
    pub as_many : length cells' ≡ length cells
