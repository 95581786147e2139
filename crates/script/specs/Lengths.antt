-- The lengths of the lists that calls are lent.
use Rattle.std.specs.Prelude.{◌≡◌, ℕ, max, List, [], ◌∷◌}
use Rattle.std.specs.Borrow.{Bor}
use Rattle.std.specs.Fn.{Shared, FnReturnsAt}
use Rattle.calls.specs.declared.call.Call.{Call}
use Rattle.calls.specs.declared.call.Call.TheVariants.{Open, Leaf, Node, Equate, Compare, Solve, Check}

-- the largest of some numbers, and 0 if there is none
abbrev pub largest : {A : Type 0} → (A → ℕ) → List A → ℕ
largest f [] = 0
largest f (x ∷ xs) = max (f x) (largest f xs)

-- whatever key a function gives each thing, the number found is the largest of these keys
abbrev pub Finds : {F A : Type 0} → Shared F (Bor A × Unit {0}) ℕ → F → List A → ℕ → Type 0
Finds {F} {A} g f xs n = (key : A → ℕ) → ((x : A) (k : ℕ) → FnReturnsAt g f x k → k ≡ key x) → n ≡ largest key xs

-- the length of the work list that a call is lent
abbrev pub work_of : {L : Type 0} → Call L → ℕ
work_of Open = 0
work_of (Leaf v) = 0
work_of (Node symbol args) = 0
work_of (Equate left right work) = work
work_of (Compare left right work) = work
work_of (Solve goals budget room work frames) = work
work_of (Check goals steps work frames) = work

-- how many frames a call is lent
abbrev pub frames_of : {L : Type 0} → Call L → ℕ
frames_of Open = 0
frames_of (Leaf v) = 0
frames_of (Node symbol args) = 0
frames_of (Equate left right work) = 0
frames_of (Compare left right work) = 0
frames_of (Solve goals budget room work frames) = frames
frames_of (Check goals steps work frames) = frames

-- the length of the record list that a call is lent
abbrev pub room_of : {L : Type 0} → Call L → ℕ
room_of Open = 0
room_of (Leaf v) = 0
room_of (Node symbol args) = 0
room_of (Equate left right work) = 0
room_of (Compare left right work) = 0
room_of (Solve goals budget room work frames) = room
room_of (Check goals steps work frames) = 0
