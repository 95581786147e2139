-- The executable search comes to the outcome that the definition of searches gives.
use Rattle.std.proofs.Common.{◌≡◌, ℕ, zero, suc, ◌+◌, ◌<◌, ◌≤◌, Bool, true, false, eqb, ltb, ◌≢◌, List, [], ◌∷◌, ◌++◌, map, length, Some, sym, refl, ◌∙◌, subst, arith}
use mathlib.Core.List.{cons≢nil}
use Rattle.std.specs.List.{AllByRecursion}
use Rattle.std.proofs.lemmas.Bool.{ltb-true, ltb-false, eqb-true, eqb-false}
use Rattle.theory.specs.Equations.{Equation}
use Rattle.theory.specs.Entries.{Entry, BookRules}
use Rattle.theory.specs.Records.{Step, Goal, Replay, Replayed, step}
use Rattle.theory.specs.Search.{Point, Limits, Outcome, granted, failed, spent, full, short, without, onward}
use Rattle.theory.specs.Search.{Stuck, May, Searches, Solve}
use Rattle.theory.specs.Search.{done, exhausted, back, out_of_tries, out_of_steps, out_of_cells, falls, stands}
use Rattle.theory.specs.Known.{Names}
use Rattle.theory.proofs.Elements.{none_some, some_inj}
use Rattle.unify.specs.Cells.{Cell, most}
use Rattle.unify.specs.Unify.{Move}
use Rattle.unify.specs.Theorems.{Decides}
use Rattle.searching.specs.Trying.{attempt}
use Rattle.searching.specs.Solving.{Spot, Ended, Goes, ended, spot, by_move, by_cells, by_step, by_room, by_budget}
use Rattle.searching.specs.Solving.{by_below, by_left, by_pending, searches, solves, first_point}
use Rattle.searching.proofs.Attempts.{Keeps, Comes, attempt_right}

module _ {V : Type 0} where
  -- the points without their cells
  abbrev pub points : List (Spot V) → List (Point V)
  points below = map (λ s. s.point) below

  -- a grant has the record of its last point
  abbrev pub AsGranted : Outcome → Spot V → Type 0
  AsGranted (granted n steps) s = steps ≡ s.point.steps
  AsGranted (failed n) s = Unit {0}
  AsGranted (spent n) s = Unit {0}
  AsGranted (full n) s = Unit {0}
  AsGranted (short n) s = Unit {0}

module _ {V : Type 0} (same : V → V → Bool) (law : Decides same) (book : List (Entry V)) (rules : BookRules book)
    (known : List (Equation V ℕ)) (used : ℕ) (low : AllByRecursion (Names (λ c. c < used)) known)
    (goals : List ℕ) (in_use : AllByRecursion (λ g. g < used) goals) (lim : Limits) (fits : used + lim.free ≤ most) where
  -- the cells of the point mean what is known and its replay
  abbrev pub Good : Spot V → Type 0
  Good s = Keeps same law book rules known used low goals in_use s.point.at s.point.steps s.cells

  -- the search from the point comes to this end
  abbrev pub Ends : Point V → List (Point V) → ℕ → Ended V → Type 0
  Ends p below n e =
      Searches book known lim p below n e.outcome × Good e.last × AsGranted e.outcome e.last

  -- so wherever it goes on
  abbrev GoesRight : Goes V → Type 0
  GoesRight go = (s : Spot V) (below : List (Spot V)) (n : ℕ) → Good s → AllByRecursion Good below → (e : Ended V) →
      go s below n ≡ Some e → Ends s.point (points below) n e

  -- the search ends here
  ends_here : (s : Spot V) (below : List (Point V)) (n : ℕ) (o : Outcome) → Good s →
      Searches book known lim s.point below n o → AsGranted o s → (e : Ended V) → ended s o ≡ Some e →
      Ends s.point below n e
  ends_here s below n o k h a e q = subst (Ends s.point below n) (some_inj q) (h, k, a)

  module _ (go : Goes V) (right : GoesRight go) (s : Spot V) (below : List (Spot V)) (n : ℕ) (k : Good s)
      (ks : AllByRecursion Good below) (e : Ended V) where
    -- what is to be shown
    abbrev Here : Type 0
    Here = Ends s.point (points below) n e

    -- the try stands or is taken back
    move_right : (x : Step) (xs : List Step) (m : Replay V) (t : Move V) →
        May book known lim s.point n x xs m →
        Comes same law book rules known used low goals in_use m (s.point.steps ++ (x ∷ [])) t →
        by_move same book used lim go s below n x xs m t ≡ Some e → Here
    unfolding by_move
    move_right x xs m (Move.went t) may c q =
        let w = right (spot (onward book s.point x m) t.cells)
        (spot (without s.point xs) s.cells ∷ below) (suc n) c.1 (k, ks) e q in
        (stands x xs m may c.0 w.0, w.1, w.2)
    move_right x xs m (Move.clash t) may c q =
        let w = right (spot (without s.point xs) s.cells) below (suc n) k ks e q in
        (falls x xs m may c w.0, w.1, w.2)

    -- at a goal that is pending, with a try left
    module _ (g : Goal) (rest : List Goal) (p : s.point.at.pending ≡ g ∷ rest) (x : Step) (xs : List Step)
        (l : s.point.left ≡ x ∷ xs) where
      -- the instance fits or does not
      cells_right : (m : Replay V) → n ≢ lim.budget → length s.point.steps < lim.room →
          step book s.point.at x ≡ Replayed.went m → (b : Bool) → ltb lim.free m.cells ≡ b →
          by_cells same book used lim go s below n g x xs m b ≡ Some e → Here
      unfolding by_cells
      cells_right m u v w true b q =
          ends_here s (points below) n (short n) k
          (out_of_cells x xs m l u v w (ltb-true lim.free m.cells b)) tt e q
      cells_right m u v w false b q =
          let h : m.cells ≤ lim.free = ltb-false lim.free m.cells b in
          move_right x xs m (attempt same book used s.cells s.point.at g x.mode x.number)
          (record { next = l; after = w; budget = u; room = v; cells = h })
          (attempt_right same law book rules known used low goals in_use s.point.at s.point.steps
          s.cells k g rest p x m w (omega arith)) q

      -- the step keeps the rules
      step_right : n ≢ lim.budget → length s.point.steps < lim.room →
          (o : Replayed V) → step book s.point.at x ≡ o →
          by_step same book used lim go s below n g x xs o ≡ Some e → Here
      unfolding by_step
      step_right u v (Replayed.broken rule) w q = absurd (none_some q)
      step_right u v (Replayed.went m) w q = cells_right m u v w (ltb lim.free m.cells) refl q

      -- a record step is free or is not
      room_right : n ≢ lim.budget → (b : Bool) → ltb (length s.point.steps) lim.room ≡ b →
          by_room same book used lim go s below n g x xs b ≡ Some e → Here
      unfolding by_room
      room_right u true b q =
          step_right u (ltb-true (length s.point.steps) lim.room b) (step book s.point.at x) refl q
      room_right u false b q =
          ends_here s (points below) n (full n) k
          (out_of_steps x xs l u (ltb-false (length s.point.steps) lim.room b)) tt e q

      -- the budget is spent or is not
      budget_right : (b : Bool) → eqb n lim.budget ≡ b →
          by_budget same book used lim go s below n g x xs b ≡ Some e → Here
      unfolding by_budget
      budget_right true b q =
          ends_here s (points below) n (spent n) k (out_of_tries x xs l (eqb-true n lim.budget b)) tt e q
      budget_right false b q =
          room_right (eqb-false n lim.budget b) (ltb (length s.point.steps) lim.room) refl q

  -- no try is left
  below_right : (go : Goes V) → GoesRight go → (s : Spot V) (n : ℕ) → Good s → Stuck s.point →
      (below : List (Spot V)) → AllByRecursion Good below → (e : Ended V) →
      by_below same book used lim go s n below ≡ Some e → Ends s.point (points below) n e
  unfolding by_below
  below_right go right s n k t [] ks e q = ends_here s [] n (failed n) k (exhausted t) tt e q
  below_right go right s n k t (r ∷ below) ks e q =
      let w = right r below n ks.0 ks.1 e q in (back t w.0, w.1, w.2)

  -- the tries that are left
  left_right : (go : Goes V) → GoesRight go → (s : Spot V) (below : List (Spot V)) (n : ℕ) → Good s →
      AllByRecursion Good below → (e : Ended V) (g : Goal) (rest : List Goal) → s.point.at.pending ≡ g ∷ rest →
      (l : List Step) → s.point.left ≡ l →
      by_left same book used lim go s below n g l ≡ Some e → Ends s.point (points below) n e
  unfolding by_left
  left_right go right s below n k ks e g rest p [] l q =
      below_right go right s n k (record { goal = λ z. cons≢nil (sym p ∙ z); none = l }) below ks e q
  left_right go right s below n k ks e g rest p (x ∷ xs) l q =
      budget_right go right s below n k ks e g rest p x xs l (eqb n lim.budget) refl q

  -- the goals that are pending
  pending_right : (go : Goes V) → GoesRight go → (s : Spot V) (below : List (Spot V)) (n : ℕ) → Good s →
      AllByRecursion Good below → (e : Ended V) (l : List Goal) → s.point.at.pending ≡ l →
      by_pending same book used lim go s below n l ≡ Some e → Ends s.point (points below) n e
  unfolding by_pending
  pending_right go right s below n k ks e [] p q =
      ends_here s (points below) n (granted n s.point.steps) k (done p) refl e q
  pending_right go right s below n k ks e (g ∷ rest) p q =
      left_right go right s below n k ks e g rest p s.point.left refl q

  -- the search, for any number of turns
  searches_right : (turns : ℕ) → GoesRight (searches same book used lim turns)
  unfolding searches
  searches_right zero s below n k ks e q = absurd (none_some q)
  searches_right (suc t) s below n k ks e q =
      pending_right (searches same book used lim t) (searches_right t) s below n k ks e s.point.at.pending
      refl q

  -- the search for a record of the goals
  pub solves_right : (turns : ℕ) (cells : List (Cell V)) →
      Good (spot (first_point same book used lim goals) cells) → (e : Ended V) →
      solves same book used lim turns cells goals ≡ Some e →
      Solve book known lim goals e.outcome × Good e.last × AsGranted e.outcome e.last
  unfolding solves
  solves_right turns cells k e q =
      searches_right turns (spot (first_point same book used lim goals) cells) [] 0 k tt e q
