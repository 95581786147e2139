-- One turn of the executable search, by what is pending and which tries are left.
use Rattle.std.proofs.Common.{◌≡◌, ℕ, suc, ◌<◌, ◌≤◌, Bool, true, false, eqb, ltb, List, [], ◌∷◌, length, ap, ◌∙◌}
use Rattle.std.proofs.lemmas.Bool.{lt-ltb, le-ltb, eq-eqb, ne_eqb}
use Rattle.theory.specs.Entries.{Entry}
use Rattle.theory.specs.Records.{Step, Goal, Replay, Replayed, step}
use Rattle.theory.specs.Search.{Limits, granted, failed, spent, full, short, without, onward}
use Rattle.unify.specs.Unify.{State, Move}
use Rattle.searching.specs.Trying.{attempt}
use Rattle.searching.specs.Solving.{Spot, Goes, ended, spot, by_move, by_cells, by_step, by_room, by_budget}
use Rattle.searching.specs.Solving.{by_below, by_left, by_pending, searches}

module _ {V : Type 0} (same : V → V → Bool) (book : List (Entry V)) (used : ℕ) (lim : Limits)
    (s : Spot V) (below : List (Spot V)) (n k : ℕ) where
  abbrev go : Goes V
  go = searches same book used lim k

  -- nothing is pending
  pub turn_granted : s.point.at.pending ≡ [] →
      searches same book used lim (suc k) s below n ≡ ended s (granted n s.point.steps)
  unfolding searches by_pending
  turn_granted p = ap (by_pending same book used lim go s below n) p

  module _ (g : Goal) (rest : List Goal) (p : s.point.at.pending ≡ g ∷ rest) where
    -- the tries that are left decide
    at_goal : (l : List Step) → s.point.left ≡ l →
        searches same book used lim (suc k) s below n ≡ by_left same book used lim go s below n g l
    unfolding searches by_pending
    at_goal l e = ap (by_pending same book used lim go s below n) p ∙ ap (by_left same book used lim go s below n g) e

    -- no try is left, and no step to take back
    pub turn_failed : s.point.left ≡ [] → below ≡ [] →
        searches same book used lim (suc k) s below n ≡ ended s (failed n)
    unfolding by_left by_below
    turn_failed l b = at_goal [] l ∙ ap (by_below same book used lim go s n) b

    -- no try is left, and the latest step is taken back
    pub turn_back : s.point.left ≡ [] → (q : Spot V) (qs : List (Spot V)) → below ≡ q ∷ qs →
        searches same book used lim (suc k) s below n ≡ searches same book used lim k q qs n
    unfolding by_left by_below
    turn_back l q qs b = at_goal [] l ∙ ap (by_below same book used lim go s n) b

    module _ (x : Step) (xs : List Step) (l : s.point.left ≡ x ∷ xs) where
      at_try : (b : Bool) → eqb n lim.budget ≡ b →
          searches same book used lim (suc k) s below n ≡ by_budget same book used lim go s below n g x xs b
      unfolding by_left
      at_try b e = at_goal (x ∷ xs) l ∙ ap (by_budget same book used lim go s below n g x xs) e

      -- the budget is spent
      pub turn_spent : n ≡ lim.budget → searches same book used lim (suc k) s below n ≡ ended s (spent n)
      unfolding by_budget
      turn_spent e = at_try true (eq-eqb n lim.budget e)

      module _ (some : n ≡ lim.budget → ⊥) where
        at_room : (b : Bool) → ltb (length s.point.steps) lim.room ≡ b →
            searches same book used lim (suc k) s below n ≡ by_room same book used lim go s below n g x xs b
        unfolding by_budget
        at_room b e =
            at_try false (ne_eqb n lim.budget some) ∙ ap (by_room same book used lim go s below n g x xs) e

        -- the record list is full
        pub turn_full : lim.room ≤ length s.point.steps →
            searches same book used lim (suc k) s below n ≡ ended s (full n)
        unfolding by_room
        turn_full h = at_room false (le-ltb (length s.point.steps) lim.room h)

        module _ (free : length s.point.steps < lim.room) (m : Replay V)
            (on : step book s.point.at x ≡ Replayed.went m) where
          at_cells : (b : Bool) → ltb lim.free m.cells ≡ b →
              searches same book used lim (suc k) s below n ≡ by_cells same book used lim go s below n g x xs m b
          unfolding by_room by_step
          at_cells b e =
              at_room true (lt-ltb (length s.point.steps) lim.room free)
              ∙ (ap (by_step same book used lim go s below n g x xs) on
              ∙ ap (by_cells same book used lim go s below n g x xs m) e)

          -- the instance does not fit
          pub turn_short : lim.free < m.cells → searches same book used lim (suc k) s below n ≡ ended s (short n)
          unfolding by_cells
          turn_short h = at_cells true (lt-ltb lim.free m.cells h)

          module _ (fits : m.cells ≤ lim.free) (t : State V) where
            at_move : (v : Move V) →
                attempt same book used s.cells s.point.at g x.mode x.number ≡ v →
                searches same book used lim (suc k) s below n ≡ by_move same book used lim go s below n x xs m v
            unfolding by_cells
            at_move v e =
                at_cells false (le-ltb lim.free m.cells fits)
                ∙ ap (by_move same book used lim go s below n x xs m) e

            -- the try falls
            pub turn_falls : attempt same book used s.cells s.point.at g x.mode x.number ≡ Move.clash t →
                searches same book used lim (suc k) s below n
                ≡ searches same book used lim k (spot (without s.point xs) s.cells) below (suc n)
            unfolding by_move
            turn_falls e = at_move (Move.clash t) e

            -- the try stands
            pub turn_stands : attempt same book used s.cells s.point.at g x.mode x.number ≡ Move.went t →
                searches same book used lim (suc k) s below n
                ≡ searches same book used lim k (spot (onward book s.point x m) t.cells)
                (spot (without s.point xs) s.cells ∷ below) (suc n)
            unfolding by_move
            turn_stands e = at_move (Move.went t) e
