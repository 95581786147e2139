-- One step of the executable check, by what it comes to.
use Rattle.std.proofs.Common.{◌≡◌, ℕ, suc, ◌<◌, ◌≤◌, Bool, true, false, ltb, List, [], ◌∷◌, ap, ◌∙◌}
use Rattle.std.proofs.lemmas.Bool.{lt-ltb, le-ltb}
use Rattle.theory.specs.Entries.{Entry}
use Rattle.theory.specs.Records.{Step, Goal, Replay, Replayed, step}
use Rattle.theory.specs.Check.{passed, unlawful, no_cells}
use Rattle.unify.specs.Cells.{Cell}
use Rattle.unify.specs.Unify.{State, Move}
use Rattle.searching.specs.Trying.{attempt}
use Rattle.searching.specs.Checking.{at_end, check_move, check_goal, check_cells, check_step, checks_from}

module _ {V : Type 0} (same : V → V → Bool) (book : List (Entry V)) (used free : ℕ) (cells : List (Cell V)) (r : Replay V)
    (i : ℕ) where
  -- no step is left
  pub check_passed : r.pending ≡ [] → checks_from same book used free [] cells r i ≡ passed
  unfolding checks_from
  check_passed p = ap (λ l. at_end l i) p

  pub check_pending : (g : Goal) (rest : List Goal) → r.pending ≡ g ∷ rest →
      checks_from same book used free [] cells r i ≡ unlawful i 6
  unfolding checks_from
  check_pending g rest p = ap (λ l. at_end l i) p

  module _ (x : Step) (xs : List Step) where
    -- the step breaks a rule by its form
    pub check_broken : (rule : ℕ) → step book r x ≡ Replayed.broken rule →
        checks_from same book used free (x ∷ xs) cells r i ≡ unlawful i rule
    unfolding checks_from check_step
    check_broken rule e = ap (check_step same book used free (checks_from same book used free xs) cells r i x) e

    module _ (m : Replay V) (on : step book r x ≡ Replayed.went m) where
      to_cells : (b : Bool) → ltb free m.cells ≡ b →
          checks_from same book used free (x ∷ xs) cells r i
          ≡ check_cells same book used free (checks_from same book used free xs) cells r i x m b
      unfolding checks_from check_step
      to_cells b e =
          ap (check_step same book used free (checks_from same book used free xs) cells r i x) on
          ∙ ap (check_cells same book used free (checks_from same book used free xs) cells r i x m) e

      -- its instance does not fit
      pub check_scarce : free < m.cells → checks_from same book used free (x ∷ xs) cells r i ≡ no_cells
      unfolding check_cells
      check_scarce h = to_cells true (lt-ltb free m.cells h)

      module _ (h : m.cells ≤ free) (g : Goal) (rest : List Goal) (p : r.pending ≡ g ∷ rest) where
        to_move : (o : Move V) → attempt same book used cells r g x.mode x.number ≡ o →
            checks_from same book used free (x ∷ xs) cells r i
            ≡ check_move same book used free (checks_from same book used free xs) i m o
        unfolding check_cells check_goal
        to_move o e =
            to_cells false (le-ltb free m.cells h)
            ∙ (ap (check_goal same book used free (checks_from same book used free xs) cells r i x m) p
            ∙ ap (check_move same book used free (checks_from same book used free xs) i m) e)

        -- it leaves no reading
        pub check_falls : (t : State V) → attempt same book used cells r g x.mode x.number ≡ Move.clash t →
            checks_from same book used free (x ∷ xs) cells r i ≡ unlawful i 7
        unfolding check_move
        check_falls t e = to_move (Move.clash t) e

        -- it stands
        pub check_stands : (t : State V) → attempt same book used cells r g x.mode x.number ≡ Move.went t →
            checks_from same book used free (x ∷ xs) cells r i ≡ checks_from same book used free xs t.cells m (suc i)
        unfolding check_move
        check_stands t e = to_move (Move.went t) e
