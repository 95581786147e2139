-- Slates, and what each call on one keeps.
use Rattle.std.specs.Prelude.{◌≡◌, ℕ, ◌*◌, ◌<◌, ◌≤◌, Bool, true, false, ◌⊎◌, List, [], ◌∷◌, map, take, Some, None, Ok, Err, vec_items, vec_len, Result}
use Rattle.std.specs.List.{slice_get}
use Rattle.theory.specs.Equations.{IsAtom}
use Rattle.theory.specs.Entries.{Entry, BookRules}
use Rattle.theory.specs.Check.{If}
use Rattle.theory.specs.Calls.{Call, Answer, wrote, accepted, same, different, grants, fails, passes, refused}
use Rattle.theory.specs.Answers.{capacity, first_unused}
use Rattle.theory.specs.Known.{Known, nothing, Sound}
use Rattle.theory.specs.Carried.{StandsFor, RightCall, Carries}
use Rattle.theory.specs.Carried as T
use Rattle.unify.specs.Cells as C
use Rattle.unify.specs.Cells.{root, joined_at}
use Rattle.unify.specs.Writing.{write}
use Rattle.cells.specs.declared.cell.Cell.{Cell}
use Rattle.slate.specs.declared.refusal.Refusal.{Refusal}
use Rattle.slate.specs.declared.refusal.Refusal.TheVariants.{NotInUse, TooShort, NoCell}
use Rattle.slate.specs.declared.slate.Slate.{Slate}
use Rattle.cells.specs.Cells.{cell_of, cells_of, lying, Counted}
use Rattle.slate.specs.Refusals.{refusal_of}

-- how many cells were supplied
abbrev pub supplied : {L : Type 0} → Slate L → ℕ
supplied s = vec_len s.cells

-- the cells in use: what was written into each, and what it is joined to
abbrev pub in_use : {L : Type 0} → Slate L → List (C.Cell L)
in_use s = cells_of (take s.used (vec_items s.cells))

-- the cells in use, as a sitting has them
abbrev pub on_slate : {L : Type 0} → Slate L → List (T.Cell L)
on_slate s = map lying (in_use s)

-- the answer is a refusal
abbrev pub Refuses : Answer → Type 0
Refuses (wrote c) = ⊥
Refuses accepted = ⊥
Refuses same = ⊥
Refuses different = ⊥
Refuses (grants n steps) = ⊥
Refuses (fails n) = ⊥
Refuses passes = ⊥
Refuses (refused r) = Unit {0}

-- the promise of a call: whatever the slate stood for, the answer is the defined one and the slate stands for what
-- is known after it; a refused call leaves it unaltered
pub record Kept {L : Type 0} (old new : Slate L) (c : Call L) (a : Answer) : Type 0 where
  pub right : (book : List (Entry L)) → RightCall book (supplied old) (on_slate old) c a (on_slate new)
  pub as_many : supplied new ≡ supplied old
  pub unaltered : Refuses a → in_use new ≡ in_use old

-- whatever right sitting has led to the old slate, over any book, it goes on rightly with this call, keeps the law,
-- and leads to the new one
pub record CarriesOn {L : Type 0} (old new : Slate L) (c : Call L) (a : Answer) : Type 0 where
  pub over : (book : List (Entry L)) → BookRules book → Carries book (supplied old) (on_slate old) c a (on_slate new)

-- the answer is one that leaves the slate unaltered
abbrev pub Leaves : Answer → Type 0
Leaves (wrote c) = ⊥
Leaves accepted = ⊥
Leaves same = Unit {0}
Leaves different = Unit {0}
Leaves (grants n steps) = ⊥
Leaves (fails n) = Unit {0}
Leaves passes = Unit {0}
Leaves (refused r) = Unit {0}

-- the promise of a call over one book: as `Kept`, for calls that ask a book; whatever neither writes, nor is accepted,
-- nor is granted leaves the slate unaltered
pub record KeptOver {L : Type 0} (book : List (Entry L)) (old new : Slate L) (c : Call L) (a : Answer) : Type 0 where
  pub right : RightCall book (supplied old) (on_slate old) c a (on_slate new)
  pub carries : ∥ BookRules book ∥₁ → Carries book (supplied old) (on_slate old) c a (on_slate new)
  pub as_many : supplied new ≡ supplied old
  pub unaltered : Leaves a → in_use new ≡ in_use old

-- no cell is in use, and the slate stands for what is known at the start of a sitting
pub record Wiped {L : Type 0} (s : Slate L) : Type 0 where
  pub none : in_use s ≡ []
  pub begins : StandsFor (on_slate s) nothing

-- the answer of a write
abbrev pub wrote_or : Result ℕ Refusal → Answer
wrote_or (Ok n) = wrote n
wrote_or (Err e) = refused (refusal_of e)

-- the answer of an equate
abbrev pub accepted_or : {U : Type 0} → Result U Refusal → Answer
accepted_or (Ok u) = accepted
accepted_or (Err e) = refused (refusal_of e)

-- the answer of a compare
abbrev pub same_or : Result Bool Refusal → Answer
same_or (Ok true) = same
same_or (Ok false) = different
same_or (Err e) = refused (refusal_of e)

-- what writing into the next cell did
abbrev pub Written : {L : Type 0} → Slate L → Slate L → C.Content L → Result ℕ Refusal → Type 0
Written old new c (Ok n) = (n ≡ old.used) × (old.used < capacity (supplied old)) ×
    (in_use new ≡ write (in_use old) c) × (supplied new ≡ supplied old)
Written old new c (Err e) = (e ≡ NoCell) × (capacity (supplied old) ≤ old.used) ×
    (in_use new ≡ in_use old) × (supplied new ≡ supplied old)

-- whether a cell is in use
abbrev pub InUse : {U : Type 0} → ℕ → ℕ → Result U Refusal → Type 0
InUse used c (Ok u) = c < used
InUse used c (Err e) = (e ≡ NotInUse c) × (used ≤ c)

-- whether all cells of a list are in use, or which is the first that is not
abbrev pub AllInUse : {U : Type 0} → ℕ → List ℕ → Result U Refusal → Type 0
AllInUse used cs (Ok u) = first_unused used cs ≡ None
AllInUse used cs (Err e) = (c : ℕ) × (e ≡ NotInUse c) × (first_unused used cs ≡ Some c)

-- whether a work list is long enough for the slate's cells
abbrev pub LongEnough : {U : Type 0} → ℕ → ℕ → Result U Refusal → Type 0
LongEnough cells work (Ok u) = 9 * capacity cells ≤ work
LongEnough cells work (Err e) = (e ≡ TooShort) × (work < 9 * capacity cells)

-- whether two terms can be equated or compared with a work list, or which of the two tests comes first that refuses them
abbrev pub Admits : {L U : Type 0} → Slate L → ℕ → ℕ → ℕ → Result U Refusal → Type 0
Admits s work x y (Ok u) = (first_unused s.used (x ∷ y ∷ []) ≡ None) × (9 * capacity (supplied s) ≤ work)
Admits s work x y (Err e) =
    ((c : ℕ) × (e ≡ NotInUse c) × (first_unused s.used (x ∷ y ∷ []) ≡ Some c)) ⊎
    ((e ≡ TooShort) × (first_unused s.used (x ∷ y ∷ []) ≡ None) × (work < 9 * capacity (supplied s)))

-- what is read from a cell: what was written into it and what it is joined to; or that it is not in use
abbrev pub Reads : {L : Type 0} → Slate L → ℕ → Result (Cell L) Refusal → Type 0
Reads s i (Ok c) = (slice_get (in_use s) i ≡ Some (cell_of c)) × Counted c.content
Reads s i (Err e) = (e ≡ NotInUse i) × (s.used ≤ i)

-- the end of a cell's chain of joins; or that the cell is not in use
abbrev pub Leads : {L : Type 0} → Slate L → ℕ → Result ℕ Refusal → Type 0
Leads s i (Ok r) = (i < s.used) × (r < s.used) × (r ≡ root (in_use s) i) × (joined_at (in_use s) r ≡ None)
Leads s i (Err e) = (e ≡ NotInUse i) × (s.used ≤ i)

-- whether a term is an atom, by whatever the slate stands for; or that the cell is not in use
abbrev pub TellsAtom : {L : Type 0} → Slate L → ℕ → Result Bool Refusal → Type 0
TellsAtom {L} s i (Ok b) = (i < s.used) ×
    ((k : Known L) → StandsFor (on_slate s) k → If (IsAtom k.equations i) (b ≡ true) (b ≡ false))
TellsAtom s i (Err e) = (e ≡ NotInUse i) × (s.used ≤ i)

-- every slate stands for something, so that the promise of a call is never empty
abbrev pub SlatesStandForSomething : Type 0 → Type 0
SlatesStandForSomething L = (s : Slate L) → (k : Known L) × Sound k × StandsFor (on_slate s) k
