-- What a whole run of the unifier leaves, by what each of its steps keeps.
use Rattle.std.proofs.Common.{◌≡◌, ℕ, zero, suc, ◌+◌, ◌-◌, ◌<◌, Bool, true, List, length, Some, None, Option, refl, ◌∙◌, subst, arith}
use Rattle.std.specs.List.{slice_get, AllByRecursion}
use Rattle.unify.specs.Cells.{Cell, unjoined}
use Rattle.unify.specs.Solved.{Solved}
use Rattle.unify.specs.Unify.{State, Move, went, clash, start, next, after, meet, pay, turn, settle, rest, join, unify}
use Rattle.unify.specs.Steady.{Steady, StaysTrailed, WentOn, reached}
use Rattle.unify.specs.Theorems.{Decides, Unified, Agreed}
use Rattle.unify.proofs.Places.{nth_inside}
use Rattle.unify.proofs.Steadiness.{start_steady, next_steady, meet_trailed, pay_trailed}
use Rattle.unify.proofs.Unified.{unify_right}

module _ {V : Type 0} where
  -- what a run keeps, wherever on the trail it comes to
  record Ran (s t : State V) : Type 0 where
    steady : Steady t
    number : length t.cells ≡ length s.cells
    kept : unjoined t.cells + length t.trail ≡ unjoined s.cells + length s.trail

  ran_refl : (s : State V) → Steady s → Ran s s
  ran_refl s st = record { steady = st; number = refl; kept = refl }

  ran_step : (s t : State V) → StaysTrailed s t → Ran s t
  ran_step s t g = record { steady = g.stays.steady; number = g.stays.number; kept = g.kept }

  ran_trans : (s t u : State V) → Ran s t → Ran t u → Ran s u
  ran_trans s t u g h = record { steady = h.steady; number = h.number ∙ g.number; kept = h.kept ∙ g.kept }

  ran_next : (s t : State V) → StaysTrailed s t → s.place < length s.trail → Ran s (next t)
  unfolding next
  ran_next s t g h = record {
    steady = next_steady t g.stays.steady (omega (arith, g.stays.place, g.stays.longer));
    number = g.stays.number;
    kept = g.kept;
  }

  ran_after : (s : State V) (m : Move V) (step : State V → Move V) → StaysTrailed s (reached m) →
      ((t : State V) → StaysTrailed s t → Ran s (reached (step t))) → Ran s (reached (after m step))
  unfolding after
  ran_after s (went t) step g f = f t g
  ran_after s (clash t) step g f = ran_step s t g

module _ {V : Type 0} (same : V → V → Bool) (open_joins : Bool) where
  turn_ran : (go : State V → Move V) → ((t : State V) → Steady t → Ran t (reached (go t))) → (s : State V) → Steady s →
      (o : Option ℕ) → slice_get s.trail s.place ≡ o → Ran s (reached (turn same open_joins o s go))
  unfolding turn
  turn_ran go f s st None e = ran_refl s st
  turn_ran go f s st (Some i) e =
      ran_after s (pay same open_joins s i) (λ t. go (next t)) (pay_trailed same open_joins s st i)
      (λ t g. let h : Ran s (next t) = ran_next s t g (nth_inside s.trail s.place i e) in
      ran_trans s (next t) (reached (go (next t))) h (f (next t) h.steady))

  settle_ran : (n : ℕ) (s : State V) → Steady s → Ran s (reached (settle same open_joins n s))
  unfolding settle
  settle_ran zero s st = ran_refl s st
  settle_ran (suc n) s st = turn_ran (settle same open_joins n) (settle_ran n) s st (slice_get s.trail s.place) refl

  rest_ran : (s : State V) → Steady s → Ran s (reached (rest same open_joins s))
  unfolding rest
  rest_ran s st = settle_ran (length s.cells - s.place) s st

  -- a run from solved cells
  join_ran : (cells : List (Cell V)) → Solved cells → (a b : ℕ) → a < length cells → b < length cells →
      Ran (start cells) (reached (join same open_joins cells a b))
  unfolding join start
  join_ran cells ok a b ha hb =
      let s : State V = start cells in
      let st : Steady s = start_steady cells ok in
      ran_after s (meet same open_joins s a b) (rest same open_joins) (meet_trailed same open_joins s st a b ha hb)
      (λ t g. ran_trans s t (reached (rest same open_joins t)) (ran_step s t g) (rest_ran t g.stays.steady))

-- where unifying went on
pub went_on : {V : Type 0} (same : V → V → Bool) → Decides same → (cells : List (Cell V)) → Solved cells → (a b : ℕ) →
    a < length cells → b < length cells → (s : State V) → unify same cells a b ≡ went s → WentOn cells s
unfolding unify start
went_on {V} same law cells ok a b ha hb s e =
    let z : Agreed cells a b s = subst (Unified cells a b) e (unify_right same law cells ok a b ha hb) in
    let r : Ran (start cells) s = subst (λ m. Ran (start cells) (reached m)) e (join_ran same true cells ok a b ha hb) in
    record {
      solved = z.solved;
      number = z.contents.number;
      undone = z.undone;
      trailed = subst (λ n. AllByRecursion (λ i. i < n) s.trail) z.contents.number r.steady.trailed;
      kept = omega (arith, r.kept);
    }
