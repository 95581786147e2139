-- What holds of the executable search and check: they come to what the definitions give.
use Rattle.std.specs.Prelude.{◌≡◌, ℕ, ◌+◌, ◌*◌, ◌<◌, ◌≤◌, Bool, List, [], map, length, Some}
use Rattle.std.specs.List.{AllByRecursion}
use Rattle.theory.specs.Entries.{Entry, BookRules}
use Rattle.theory.specs.Records.{Step, replay}
use Rattle.theory.specs.Search.{Limits, granted, Solve}
use Rattle.theory.specs.Check.{Check}
use Rattle.theory.specs.Calls.{Call, write_open, write_leaf, write_node, equate, compare, solve, check, Event}
use Rattle.theory.specs.Known.{Known, Sound, recorded, after}
use Rattle.theory.specs.Answers.{Defined, Symbols}
use Rattle.theory.specs.Sittings.{Right}
use Rattle.unify.specs.Cells.{Cell, most}
use Rattle.unify.specs.Solved.{Solved}
use Rattle.unify.specs.Theorems.{Decides}
use Rattle.unify.specs.Meaning.{Means}
use Rattle.searching.specs.Solving.{Ended, solves}
use Rattle.searching.specs.Checking.{checks}
use Rattle.searching.specs.Answering.{Answered, answers, sits}

-- the cells in use are solved, and mean what is known
pub record Holds {V : Type 0} (cells : List (Cell V)) (k : Known V) : Type 0 where
  pub solved : Solved cells
  pub used : length cells ≡ k.used
  pub means : Means cells k.equations

-- the search has the outcome that is defined, and a grant leaves cells that mean what is known after it
pub record Searched {V : Type 0} (book : List (Entry V)) (k : Known V) (lim : Limits) (goals : List ℕ)
    (e : Ended V) : Type 0 where
  pub outcome : Solve book k.equations lim goals e.outcome
  pub cells : (n : ℕ) (steps : List Step) → e.outcome ≡ granted n steps →
      Holds e.last.cells (recorded k (replay book goals steps))

-- over a book that keeps the rules and cells that mean what is known, for goals in use, whatever the executable
-- search comes to is what the definition of searches gives
abbrev pub SearchIsRight : Type 0 → Type 0
SearchIsRight V =
    (same : V → V → Bool) → Decides same → (book : List (Entry V)) → BookRules book →
    (k : Known V) → Sound k → (cells : List (Cell V)) → Holds cells k →
    (goals : List ℕ) → AllByRecursion (λ g. g < k.used) goals → (lim : Limits) → k.used + lim.free ≤ most →
    (turns : ℕ) (e : Ended V) → solves same book k.used lim turns cells goals ≡ Some e →
    Searched book k lim goals e

-- so is the verdict of the executable check
abbrev pub CheckIsRight : Type 0 → Type 0
CheckIsRight V =
    (same : V → V → Bool) → Decides same → (book : List (Entry V)) → BookRules book →
    (k : Known V) → Sound k → (cells : List (Cell V)) → Holds cells k →
    (goals : List ℕ) → AllByRecursion (λ g. g < k.used) goals → (free : ℕ) → k.used + free ≤ most →
    (steps : List Step) →
    Check book k.equations free goals steps (checks same book k.used free cells goals steps)

-- the answer that is executed is the defined one, and the cells that it leaves mean what is known after it
abbrev pub AnswersAreRight : Type 0 → Type 0
AnswersAreRight V =
    (same : V → V → Bool) → Decides same → (book : List (Entry V)) → BookRules book → (supplied turns : ℕ) →
    (k : Known V) → Sound k → (cells : List (Cell V)) → Holds cells k →
    (c : Call V) (a : Answered V) → answers same book supplied turns cells c ≡ Some a →
    Defined book supplied k c a.answer × Holds a.cells (after book k c a.answer)

-- a sitting that is executed from no cells on is right, and has just the calls that were made
abbrev pub SittingsAreRight : Type 0 → Type 0
SittingsAreRight V =
    (same : V → V → Bool) → Decides same → (book : List (Entry V)) → BookRules book → (supplied turns : ℕ) →
    (calls : List (Call V)) (h : List (Event V)) → sits same book supplied turns calls [] ≡ Some h →
    Right book supplied h × (map (λ e. e.call) h ≡ calls)

-- so many turns suffice for the call: a search takes two for each try of its budget, and one more, at most
abbrev pub Enough : {V : Type 0} → ℕ → Call V → Type 0
Enough turns write_open = Unit {0}
Enough turns (write_leaf v) = Unit {0}
Enough turns (write_node f args) = Unit {0}
Enough turns (equate x y w) = Unit {0}
Enough turns (compare x y w) = Unit {0}
Enough turns (solve goals budget steps w f) = 2 * budget < turns
Enough turns (check goals steps w f) = Unit {0}

-- where the turns suffice, every call over any cells comes to an answer
abbrev pub TurnsSuffice : Type 0 → Type 0
TurnsSuffice V =
    (same : V → V → Bool) (book : List (Entry V)) (supplied turns : ℕ) (calls : List (Call V))
    (cells : List (Cell V)) → AllByRecursion (λ c. Symbols c × Enough turns c) calls →
    (h : List (Event V)) × (sits same book supplied turns calls cells ≡ Some h)

-- whatever calls are made, some right sitting has just these calls, and it can be executed
abbrev pub EverySittingComesOut : Type 0 → Type 0
EverySittingComesOut V =
    (same : V → V → Bool) → Decides same → (book : List (Entry V)) → BookRules book → (supplied : ℕ) →
    (calls : List (Call V)) → AllByRecursion Symbols calls →
    (h : List (Event V)) × Right book supplied h × (map (λ e. e.call) h ≡ calls)
