-- Derivations and searches, as the definitions have them.
use Rattle.std.specs.Prelude.{◌≡◌, ℕ, ◌-◌, Bool, List, length, take, drop, Result}
use Rattle.theory.specs.Entries.{Entry}
use Rattle.theory.specs.Check.{Verdict}
use Rattle.unify.specs.Cells as C
use Rattle.searching.specs.Checking.{checks}
use Rattle.cells.specs.Cells.{cells_of}
use Rattle.calls.specs.declared.step.Step.{Step}
use Rattle.calls.specs.Steps.{steps_of}
use Rattle.attempts.specs.Lists.{SameLists}
use Rattle.solver.specs.declared.derivation.Derivation.{Derivation}
use Rattle.solver.specs.declared.search.Search.{Search}
use Rattle.solver.specs.declared.ending.Ending.{Ending}
use Rattle.solver.specs.Standing.{Standing, Moment}
use Rattle.solver.specs.Checking.{bounds_of, Replaying}
use Rattle.solver.specs.Searching.{origin, Running, Turned, Finished}

module _ {B L : Type 0} where
  -- where a derivation stands
  abbrev pub standing_of : Derivation B L → Standing
  standing_of d = record { depth = d.depth; extent = d.store.now.extent; goal = d.goal }

  -- the derivation goes on over the book, the goals and the lists that it had
  pub record Continues (old new : Derivation B L) : Type 0 where
    pub book : new.book ≡ old.book
    pub goals : new.goals ≡ old.goals
    pub store : new.store.ghost_name ≡ old.store.ghost_name
    pub lists : SameLists old.store.now new.store.now
    pub as_many : length new.store.now.cells.now ≡ length old.store.now.cells.now
    pub frames : new.frames.ghost_name ≡ old.frames.ghost_name

  -- nothing but what the store holds is altered
  pub record StoreAlone (old new : Derivation B L) : Type 0 where
    pub book : new.book ≡ old.book
    pub goals : new.goals ≡ old.goals
    pub store : new.store.ghost_name ≡ old.store.ghost_name
    pub lists : SameLists old.store.now new.store.now
    pub frames : new.frames ≡ old.frames
    pub depth : new.depth ≡ old.depth
    pub goal : new.goal ≡ old.goal

  -- the point at which a search is
  abbrev pub moment_of : Search B L → Moment
  moment_of s = record { at = standing_of s.derivation.now; cursor = s.cursor; count = s.count }

  -- the cells that a search began over
  abbrev pub origin_of : Search B L → List (C.Cell L)
  origin_of s =
      origin s.bounds.first s.derivation.now.store.now.cells.now s.derivation.now.store.now.work.now
      s.derivation.now.store.now.extent

  -- the search goes on within its bounds, over the same derivation
  pub record GoesOn (old new : Search B L) : Type 0 where
    pub bounds : new.bounds ≡ old.bounds
    pub derivation : new.derivation.ghost_name ≡ old.derivation.ghost_name
    pub over : Continues old.derivation.now new.derivation.now

  module _ (alike : L → L → Bool) (book : List (Entry L)) (cells₀ : List (C.Cell L)) (s : Search B L) where
    -- the lists are those of a point of the search that began over those cells
    abbrev pub SearchRuns : Type 0
    SearchRuns =
        Running alike book s.derivation.now.goals.now s.bounds cells₀ s.derivation.now.store.now.cells.now
        s.derivation.now.store.now.work.now s.derivation.now.frames.now (moment_of s)

    -- the search goes on after a turn, or ends
    abbrev pub SearchTurned : Search B L → Result (Unit {0}) Ending → Type 0
    SearchTurned s' r =
        Turned alike book s.derivation.now.goals.now s.bounds cells₀ r (moment_of s) s'.derivation.now.store.now.cells.now
        s'.derivation.now.store.now.work.now s'.derivation.now.frames.now (moment_of s')

    -- the search has come to its end
    abbrev pub SearchEnded : Search B L → Result (Unit {0}) Ending → Type 0
    SearchEnded s' r =
        Finished alike book s.derivation.now.goals.now s.bounds cells₀ s'.derivation.now.store.now.cells.now
        s'.derivation.now.store.now.work.now s'.derivation.now.frames.now (moment_of s') r

  module _ (alike : L → L → Bool) (entries : B → List (Entry L)) (d₀ : Derivation B L) (room : ℕ) where
    -- the verdict on a record, over the cells that were in use at the beginning of its replay
    abbrev pub verdict_on : List Step → Verdict
    verdict_on record_steps =
        checks alike (entries d₀.book.now) d₀.store.now.extent.used (room - d₀.store.now.extent.used)
        (cells_of (take d₀.store.now.extent.used d₀.store.now.cells.now)) d₀.goals.now (steps_of record_steps)

    -- so many steps of the record are replayed, and what is left leads to the verdict
    pub record ReplayGoes (d : Derivation B L) (record_steps : List Step) (i : ℕ) : Type 0 where
      pub depth : d.depth ≡ i
      pub replaying : Replaying alike (entries d.book.now) d.goals.now
          (bounds_of (length record_steps) room d₀.store.now.extent.used)
          (cells_of (take d₀.store.now.extent.used d₀.store.now.cells.now)) (verdict_on record_steps)
          d.store.now.cells.now d.store.now.work.now d.frames.now (standing_of d) (steps_of (drop i record_steps))
      pub same : Continues d₀ d
