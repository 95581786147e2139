-- A search that grants has found a lawful record within its limits.
use Rattle.std.proofs.Common.{ℕ, suc, ◌+◌, ◌<◌, ◌≤◌, ◌≢◌, List, length, sym, refl, subst, arith}
use Rattle.std.specs.List.{AllByRecursion}
use Rattle.std.proofs.ByRecursion.{All-weaker}
use Rattle.std.proofs.lemmas.List.{length_push}
use Rattle.theory.specs.Equations.{Equation, Solvable}
use Rattle.theory.specs.Entries.{Entry}
use Rattle.theory.specs.Records.{Step, start, Leads, together}
use Rattle.theory.specs.Search.{Point, Limits, Outcome, granted, failed, spent, full, short, Searches, Solve}
use Rattle.theory.specs.Search.{Found}
use Rattle.theory.specs.Search.{without, onward}
use Rattle.theory.specs.Search.{done, exhausted, back, out_of_tries, out_of_steps, out_of_cells, falls, stands}
use Rattle.theory.proofs.Replays.{leads_push, leads_replay, started}

module _ {V : Type 0} (book : List (Entry V)) (known : List (Equation V ℕ)) (lim : Limits) (goals : List ℕ) where
  -- the steps that stand at a point, after n tries
  record Reached (n : ℕ) (p : Point V) : Type 0 where
    leads : Leads book (start goals) p.steps p.at
    solvable : Solvable (together known p.at)
    cells : p.at.cells ≤ lim.free
    room : length p.steps ≤ lim.room
    tried : length p.steps ≤ n

  -- fewer tries left make no difference to it
  fewer : (n : ℕ) (p : Point V) (xs : List Step) → Reached n p → Reached n (without p xs)
  fewer n p xs r =
      record { leads = r.leads; solvable = r.solvable; cells = r.cells; room = r.room; tried = r.tried }

  -- nor does one more try
  later : (n : ℕ) (p : Point V) → Reached n p → Reached (suc n) p
  later n p r = record {
    leads = r.leads;
    solvable = r.solvable;
    cells = r.cells;
    room = r.room;
    tried = let h : length p.steps ≤ n = r.tried in omega arith;
  }

  -- what the outcome says
  abbrev Says : Outcome → Type 0
  Says (granted n steps) = Found book known lim goals n steps
  Says (failed n) = Unit {0}
  Says (spent n) = Unit {0}
  Says (full n) = Unit {0}
  Says (short n) = Unit {0}

  -- a count that is not the budget is below it
  under : (n b : ℕ) → n ≤ b → n ≢ b → suc n ≤ b
  under n b h e = omega arith

  -- every point of a search was reached so, and the last one is the record
  finds : {p : Point V} {below : List (Point V)} {n : ℕ} {o : Outcome} → Searches book known lim p below n o →
      n ≤ lim.budget → Reached n p → AllByRecursion (Reached n) below → Says o
  finds (done {p = p} e) b r a = record {
    lawful = record { last = p.at; leads = r.leads; done = e; solvable = r.solvable };
    cells =
        let e = leads_replay book (start goals) p.steps p.at r.leads in
        subst (λ t. t.cells ≤ lim.free) (sym e) r.cells;
    room = r.room;
    tried = r.tried;
    budget = b;
  }
  finds (exhausted s) b r a = tt
  finds (back s t) b r a = finds t b a.0 a.1
  finds (out_of_tries x xs l e) b r a = tt
  finds (out_of_steps x xs l e f) b r a = tt
  finds (out_of_cells x xs q l e f s c) b r a = tt
  finds (falls {p = p} {below = below} {n = n} x xs q m u t) b r a =
      finds t (under n lim.budget b m.budget)
      (fewer (suc n) p xs (later n p r))
      (All-weaker (Reached n) (Reached (suc n)) (later n) below a)
  finds (stands {p = p} {below = below} {n = n} x xs q m u t) b r a =
      finds t (under n lim.budget b m.budget) next
      (fewer (suc n) p xs (later n p r), All-weaker (Reached n) (Reached (suc n)) (later n) below a)
    where
      one_more : (k l : ℕ) → k < l → k + 1 ≤ l
      one_more k l h = omega arith

      one_try : (k l : ℕ) → k ≤ l → k + 1 ≤ suc l
      one_try k l h = omega arith

      next : Reached (suc n) (onward book p x q)
      next = record {
        leads = leads_push book (start goals) p.steps p.at x q r.leads m.after;
        solvable = u;
        cells = m.cells;
        room =
            subst (λ k. k ≤ lim.room) (sym (length_push p.steps x))
            (one_more (length p.steps) lim.room m.room);
        tried = subst (λ k. k ≤ suc n) (sym (length_push p.steps x)) (one_try (length p.steps) n r.tried);
      }

  -- a search that grants, on a slate that has a reading, has found a lawful record within its limits
  pub granted_found : (n : ℕ) (steps : List Step) → Solvable known → Solve book known lim goals (granted n steps) →
      Found book known lim goals n steps
  granted_found n steps s t =
      finds t (omega arith)
      (record {
        leads = refl;
        solvable = started known goals s;
        cells = omega arith;
        room = omega arith;
        tried = omega arith;
      })
      tt
