-- Whole sittings: the calls as they are made, their answers, and the promise.
use Rattle.std.specs.Prelude.{◌≡◌, ℕ, min, List, [], ◌∷◌, ◌++◌, map, length, IfOk, Ok, Err, vec_items, Result, Vec}
use Rattle.theory.specs.Entries.{Entry}
use Rattle.theory.specs.Calls.{Event}
use Rattle.theory.specs.Calls as T
use Rattle.theory.specs.Known.{known}
use Rattle.theory.specs.Sittings.{Right, Law}
use Rattle.theory.specs.Carried.{Cell, StandsFor, Carries}
use Rattle.calls.specs.declared.call.Call.{Call}
use Rattle.calls.specs.declared.call.Call.TheVariants.{Open, Leaf, Node, Equate, Compare, Solve, Check}
use Rattle.calls.specs.declared.answer.Answer.{Answer}
use Rattle.calls.specs.Steps.{steps_of}
use Rattle.calls.specs.Answers.{answer_of}
use Rattle.slate.specs.declared.slate.Slate.{Slate}
use Rattle.slate.specs.Slates.{supplied, on_slate}

-- the answers that a list holds
abbrev pub listed : {Z E : Type 0} → Result (Vec Answer Z) E → Result (List Answer) E
listed (Ok answers) = Ok (vec_items answers)
listed (Err e) = Err e

module _ {L : Type 0} where
  -- a call as it is made, lent as much of each list as it asks for, but no more than there is
  abbrev pub lent : ℕ → ℕ → ℕ → Call L → T.Call L
  lent room work frames Open = T.write_open
  lent room work frames (Leaf v) = T.write_leaf v
  lent room work frames (Node symbol args) = T.write_node symbol (vec_items args)
  lent room work frames (Equate left right w) = T.equate left right (min w work)
  lent room work frames (Compare left right w) = T.compare left right (min w work)
  lent room work frames (Solve goals budget r w f) =
      T.solve (vec_items goals) budget (min r room) (min w work) (min f frames)
  lent room work frames (Check goals steps w f) =
      T.check (vec_items goals) (steps_of (vec_items steps)) (min w work) (min f frames)

  -- each call with its answer
  abbrev pub history : List (T.Call L) → List T.Answer → List (Event L)
  history [] l = []
  history (c ∷ cs) [] = []
  history (c ∷ cs) (a ∷ l) = record { call = c; answer = a } ∷ history cs l

  -- the whole promise: every answer and refusal is the one defined for the calls so far, the law of sittings holds at
  -- every moment, and the cells stand for what is known after it
  pub record Sitting (book : List (Entry L)) (supplied : ℕ) (h : List (Event L)) (cells : List (Cell L)) : Type 0 where
    pub right : Right book supplied h
    pub law : Law book supplied h
    pub stands : StandsFor cells (known book h)

  -- one call of a sitting: some answer carries every right sitting on; where it is handed out it is that answer
  pub record Made {E : Type 0} (book : List (Entry L)) (old new : Slate L) (c : T.Call L) (r : Result Answer E) : Type 0 where
    pub answer : T.Answer
    pub carries : Carries book (supplied old) (on_slate old) c answer (on_slate new)
    pub as_many : supplied new ≡ supplied old
    pub is : IfOk r (λ a. answer_of a ≡ answer)

  -- all calls were made, and these are their answers; or memory was wanting, and some first calls were made
  abbrev pub Sat : {E : Type 0} → List (Entry L) → ℕ → List (T.Call L) → List (Cell L) → Result (List Answer) E → Type 0
  Sat book supplied calls cells (Ok answers) =
      (length answers ≡ length calls) × Sitting book supplied (history calls (map answer_of answers)) cells
  Sat book supplied calls cells (Err e) =
      (h : List (Event L)) × (later : List (T.Call L)) × (calls ≡ map (λ e. e.call) h ++ later) ×
      Sitting book supplied h cells
