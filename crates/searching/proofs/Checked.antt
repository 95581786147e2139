-- The executable check comes to the verdict that the definition of check gives.
use Rattle.std.proofs.Common.{◌≡◌, ℕ, suc, ◌+◌, ◌<◌, ◌≤◌, Bool, true, false, ltb, List, [], ◌∷◌, ◌++◌, sym, refl, ◌∙◌, inl, inr, arith}
use mathlib.Core.List.{cons≢nil}
use Rattle.std.specs.List.{AllByRecursion}
use Rattle.std.proofs.lemmas.Bool.{ltb-true, ltb-false}
use Rattle.theory.specs.Equations.{Equation, Solvable}
use Rattle.theory.specs.Entries.{Entry, BookRules}
use Rattle.theory.specs.Records.{Step, Goal, Replay, Replayed, start, step, together}
use Rattle.theory.specs.Check.{If, Verdict, unlawful, no_cells, AtEnd, CheckFrom, Check}
use Rattle.theory.specs.Known.{Names}
use Rattle.theory.proofs.Steps.{Took, clause_step, loop_step, entry_step, took}
use Rattle.unify.specs.Cells.{Cell, most}
use Rattle.unify.specs.Unify.{Move}
use Rattle.unify.specs.Theorems.{Decides}
use Rattle.searching.specs.Trying.{attempt}
use Rattle.searching.specs.Checking.{GoesOn, at_end, check_move, check_goal, check_cells, check_step, checks_from}
use Rattle.searching.specs.Checking.{checks}
use Rattle.searching.proofs.Attempts.{Keeps, Comes, attempt_right}

-- the end is tested as it should be
at_end_right : (l : List Goal) (i : ℕ) → AtEnd l i (at_end l i)
at_end_right [] i = refl
at_end_right (g ∷ gs) i = refl

-- what is at most is not above
not_above : (a b : ℕ) → b ≤ a → a < b → ⊥
not_above a b h q = omega arith

-- a step that breaks no rule takes a goal
has_goal : {V : Type 0} (book : List (Entry V)) (r : Replay V) (x : Step) (m : Replay V) → Took book r x m →
    r.pending ≡ [] → ⊥
has_goal book r x m (clause_step g rest n e p i f c) q = cons≢nil (sym p ∙ q)
has_goal book r x m (loop_step g rest n p i f) q = cons≢nil (sym p ∙ q)
has_goal book r x m (entry_step g rest n e p i f) q = cons≢nil (sym p ∙ q)

module _ {V : Type 0} (same : V → V → Bool) (law : Decides same) (book : List (Entry V)) (rules : BookRules book)
    (known : List (Equation V ℕ)) (used : ℕ) (low : AllByRecursion (Names (λ c. c < used)) known)
    (goals : List ℕ) (in_use : AllByRecursion (λ g. g < used) goals) (free : ℕ) (fits : used + free ≤ most) where
  -- the cells mean what is known and the replay
  abbrev pub HeldBy : Replay V → List Step → List (Cell V) → Type 0
  HeldBy = Keeps same law book rules known used low goals in_use

  -- the check goes on rightly over the further steps
  abbrev OnRight : List Step → GoesOn V → Type 0
  OnRight xs go = (before : List Step) (cells : List (Cell V)) (r : Replay V) (i : ℕ) → HeldBy r before cells →
      CheckFrom book known free r i xs (go cells r i)

  module _ (go : GoesOn V) (xs : List Step) (right : OnRight xs go) (before : List Step) (cells : List (Cell V))
      (r : Replay V) (i : ℕ) (k : HeldBy r before cells) (x : Step) where
    -- the step leaves a reading or none
    move_right : (m : Replay V) (t : Move V) →
        Comes same law book rules known used low goals in_use m (before ++ (x ∷ [])) t →
        If (Solvable (together known m))
        (CheckFrom book known free m (suc i) xs (check_move same book used free go i m t))
        (check_move same book used free go i m t ≡ unlawful i 7)
    unfolding check_move
    move_right m (Move.went t) c = inl (c.0, right (before ++ (x ∷ [])) t.cells m (suc i) c.1)
    move_right m (Move.clash t) c = inr (c, refl)

    -- the step takes a goal
    goal_right : (m : Replay V) → step book r x ≡ Replayed.went m → m.cells ≤ free → (l : List Goal) →
        r.pending ≡ l →
        If (Solvable (together known m))
        (CheckFrom book known free m (suc i) xs (check_goal same book used free go cells r i x m l))
        (check_goal same book used free go cells r i x m l ≡ unlawful i 7)
    unfolding check_goal
    goal_right m w h [] p = absurd (has_goal book r x m (took book r x m w) p)
    goal_right m w h (g ∷ rest) p =
        move_right m (attempt same book used cells r g x.mode x.number)
        (attempt_right same law book rules known used low goals in_use r before cells k g rest p x m w
        (omega arith))

    -- the instance fits or does not
    cells_right : (m : Replay V) → step book r x ≡ Replayed.went m → (b : Bool) → ltb free m.cells ≡ b →
        If (free < m.cells) (check_cells same book used free go cells r i x m b ≡ no_cells)
        (If (Solvable (together known m))
        (CheckFrom book known free m (suc i) xs (check_cells same book used free go cells r i x m b))
        (check_cells same book used free go cells r i x m b ≡ unlawful i 7))
    unfolding check_cells
    cells_right m w true b = inl (ltb-true free m.cells b, refl)
    cells_right m w false b =
        let h : m.cells ≤ free = ltb-false free m.cells b in
        inr (not_above free m.cells h, goal_right m w h r.pending refl)

    -- what check asks of a step, by what comes of it
    abbrev Asked : Verdict → Replayed V → Type 0
    Asked v = elim [
      | Replayed.broken rule ↦ v ≡ unlawful i rule
      | Replayed.went m ↦
          If (free < m.cells) (v ≡ no_cells)
          (If (Solvable (together known m)) (CheckFrom book known free m (suc i) xs v) (v ≡ unlawful i 7))
    ]

    -- the step breaks a rule or does not
    step_right : (o : Replayed V) → step book r x ≡ o → Asked (check_step same book used free go cells r i x o) o
    unfolding check_step
    step_right (Replayed.broken rule) w = refl
    step_right (Replayed.went m) w = cells_right m w (ltb free m.cells) refl

  -- the check of the further steps
  from_right : (xs : List Step) → OnRight xs (checks_from same book used free xs)
  unfolding checks_from
  from_right [] before cells r i k = at_end_right r.pending i
  from_right (x ∷ xs) before cells r i k =
      step_right (checks_from same book used free xs) xs (from_right xs) before cells r i k x (step book r x) refl

  -- the check of a record
  pub checks_right : (cells : List (Cell V)) → HeldBy (start goals) [] cells → (steps : List Step) →
      Check book known free goals steps (checks same book used free cells goals steps)
  unfolding checks
  checks_right cells k steps = from_right steps [] cells (start goals) 0 k
