-- What is known of a slate: the cells in use, and the equations accepted.
use Rattle.std.specs.Prelude.{ℕ, suc, ◌+◌, ◌<◌, List, [], ◌∷◌, ◌++◌, map, slice_index}
use Rattle.std.specs.List.{AllByRecursion}
use Rattle.theory.specs.Equations.{Equation, is_leaf, is_node, equal, rename, Solvable}
use Rattle.theory.specs.Entries.{Entry}
use Rattle.theory.specs.Records.{Term, cell, part, Replay, replay}
use Rattle.theory.specs.Calls.{Call, write_open, write_leaf, write_node, equate, compare, solve, check}
use Rattle.theory.specs.Calls.{Answer, wrote, accepted, same, different, grants, fails, passes, refused, Event}

-- how many cells are in use, and the equations accepted so far
pub record Known (V : Type 0) : Type 0 where
  pub used : ℕ
  pub equations : List (Equation V ℕ)

-- what is known of a wiped slate
abbrev pub nothing : {V : Type 0} → Known V
nothing = record { used = 0; equations = [] }

-- every term that the equation names is so
abbrev pub Names : {V X : Type 0} → (X → Type 0) → Equation V X → Type 0
Names P (is_leaf x v) = P x
Names P (is_node x f xs) = P x × AllByRecursion P xs
Names P (equal x y) = P x × P y

-- where a granted solve leaves the cells of its instances: in the next cells, step by step
abbrev pub placed : ℕ → List ℕ → Term → ℕ
placed used offsets (cell c) = c
placed used offsets (part s j) = used + (slice_index offsets s + j)

module _ {V : Type 0} where
  -- the equations name only cells in use, and some reading solves them
  pub record Sound (k : Known V) : Type 0 where
    pub in_use : AllByRecursion (Names (λ c. c < k.used)) k.equations
    pub solvable : Solvable k.equations

  -- after a write: one more cell, with what it was written as
  abbrev pub written : Known V → List (Equation V ℕ) → Answer → Known V
  written k es (wrote c) = record { used = suc k.used; equations = k.equations ++ es }
  written k es accepted = k
  written k es same = k
  written k es different = k
  written k es (grants n steps) = k
  written k es (fails n) = k
  written k es passes = k
  written k es (refused r) = k

  -- after an equate: the equation, where it was accepted
  abbrev pub equated : Known V → ℕ → ℕ → Answer → Known V
  equated k x y (wrote c) = k
  equated k x y accepted = record { used = k.used; equations = k.equations ++ (equal x y ∷ []) }
  equated k x y same = k
  equated k x y different = k
  equated k x y (grants n steps) = k
  equated k x y (fails n) = k
  equated k x y passes = k
  equated k x y (refused r) = k

  -- after a grant: the cells of the record's instances in the next cells, and the record's equations over them
  abbrev pub recorded : Known V → Replay V → Known V
  recorded k r = record {
    used = k.used + r.cells;
    equations = k.equations ++ map (rename (placed k.used r.offsets)) r.equations;
  }

  -- after a solve: the record, where it was granted
  abbrev pub solved : List (Entry V) → Known V → List ℕ → Answer → Known V
  solved book k goals (wrote c) = k
  solved book k goals accepted = k
  solved book k goals same = k
  solved book k goals different = k
  solved book k goals (grants n steps) = recorded k (replay book goals steps)
  solved book k goals (fails n) = k
  solved book k goals passes = k
  solved book k goals (refused r) = k

  -- what is known after a call and its answer
  abbrev pub after : List (Entry V) → Known V → Call V → Answer → Known V
  after book k write_open a = written k [] a
  after book k (write_leaf v) a = written k (is_leaf k.used v ∷ []) a
  after book k (write_node f args) a = written k (is_node k.used f args ∷ []) a
  after book k (equate x y w) a = equated k x y a
  after book k (compare x y w) a = k
  after book k (solve goals b s w f) a = solved book k goals a
  after book k (check goals steps w f) a = k

  -- what is known after more events
  abbrev pub known_from : List (Entry V) → Known V → List (Event V) → Known V
  known_from book k [] = k
  known_from book k (e ∷ es) = known_from book (after book k e.call e.answer) es

  -- what is known after the events since the slate was wiped
  abbrev pub known : List (Entry V) → List (Event V) → Known V
  known book h = known_from book nothing h
