-- Whatever calls are made, some right sitting has just these calls.
use Rattle.std.proofs.Common.{◌≡◌, ℕ, ◌+◌, ◌*◌, ◌≤◌, List, [], ◌∷◌, Some, arith}
use Rattle.std.specs.List.{AllByRecursion}
use Rattle.theory.specs.Calls.{Call, write_open, write_leaf, write_node, equate, compare, solve, check, Event}
use Rattle.theory.specs.Answers.{Symbols}
use Rattle.searching.specs.Answering.{sits}
use Rattle.searching.specs.Theorems.{Enough, EverySittingComesOut}
use Rattle.searching.proofs.Sittings.{sittings_right}
use Rattle.searching.proofs.Enough.{turns_are_enough}

module _ {V : Type 0} where
  -- turns that suffice for a call
  abbrev turns_for : Call V → ℕ
  turns_for write_open = 0
  turns_for (write_leaf v) = 0
  turns_for (write_node f args) = 0
  turns_for (equate x y w) = 0
  turns_for (compare x y w) = 0
  turns_for (solve goals b s w f) = 2 * b + 1
  turns_for (check goals steps w f) = 0

  -- and for each of some calls
  abbrev turns_for_all : List (Call V) → ℕ
  turns_for_all [] = 0
  turns_for_all (c ∷ cs) = turns_for c + turns_for_all cs

  -- they suffice, and so do more
  enough : (turns : ℕ) (c : Call V) → turns_for c ≤ turns → Enough turns c
  enough turns write_open h = tt
  enough turns (write_leaf v) h = tt
  enough turns (write_node f args) h = tt
  enough turns (equate x y w) h = tt
  enough turns (compare x y w) h = tt
  enough turns (solve goals b s w f) h = omega arith
  enough turns (check goals steps w f) h = tt

  -- for each of the calls
  all_enough : (turns : ℕ) (cs : List (Call V)) → turns_for_all cs ≤ turns → AllByRecursion Symbols cs →
      AllByRecursion (λ c. Symbols c × Enough turns c) cs
  all_enough turns [] h a = tt
  all_enough turns (c ∷ cs) h a =
      ((a.0, enough turns c (omega arith)), all_enough turns cs (omega arith) a.1)

-- the sitting that is executed with as many turns
pub every_sitting : (V : Type 0) → EverySittingComesOut V
every_sitting V same law book rules supplied calls a =
    let turns : ℕ = turns_for_all calls in
    let w : (h : List (Event V)) × (sits same book supplied turns calls [] ≡ Some h) =
    turns_are_enough V same book supplied turns calls [] (all_enough turns calls (omega arith) a) in
    let r = sittings_right V same law book rules supplied turns calls w.0 w.1 in
    (w.0, r.0, r.1)
