-- The theorems of the executable search and check.
use Rattle.std.proofs.Common.{◌≡◌, ℕ, ◌+◌, ◌<◌, ◌≤◌, Bool, List, [], length, Some, sym, refl, ap, ◌∙◌, subst, append-nil, arith}
use Rattle.std.specs.List.{AllByRecursion}
use Rattle.theory.specs.Entries.{Entry, BookRules}
use Rattle.theory.specs.Records.{Step, Replay, start, replay}
use Rattle.theory.specs.Search.{Limits}
use Rattle.theory.specs.Check.{Check}
use Rattle.theory.specs.Known.{Known, Sound, recorded}
use Rattle.theory.proofs.Replays.{leads_replay}
use Rattle.unify.specs.Cells.{Cell, most}
use Rattle.unify.specs.Theorems.{Decides}
use Rattle.unify.specs.Meaning.{Means}
use Rattle.searching.specs.Solving.{Ended, solves}
use Rattle.searching.specs.Checking.{checks}
use Rattle.searching.specs.Theorems.{Holds, Searched, SearchIsRight, CheckIsRight}
use Rattle.searching.proofs.Scopes.{scoped_start}
use Rattle.searching.proofs.Attempts.{Keeps}
use Rattle.searching.proofs.Searched.{AsGranted, solves_right}
use Rattle.searching.proofs.Checked.{checks_right}

module _ {V : Type 0} (same : V → V → Bool) (law : Decides same) (book : List (Entry V)) (rules : BookRules book)
    (k : Known V) (sound : Sound k) (cells : List (Cell V)) (holds : Holds cells k)
    (goals : List ℕ) (in_use : AllByRecursion (λ g. g < k.used) goals) where
  -- the cells mean what is known and a replay
  abbrev Kept : Replay V → List Step → List (Cell V) → Type 0
  Kept = Keeps same law book rules k.equations k.used sound.in_use goals in_use

  -- so at the start
  kept_start : Kept (start goals) [] cells
  kept_start = record {
    leads = refl;
    scoped = scoped_start goals;
    solved = holds.solved;
    number = let e : length cells ≡ k.used = holds.used in omega arith;
    means = subst (Means cells) (sym (append-nil k.equations)) holds.means;
  }

  -- and after a grant they mean what is known then
  holds_after : (r : Replay V) (xs : List Step) (cs : List (Cell V)) → Kept r xs cs → (steps : List Step) →
      steps ≡ xs → Holds cs (recorded k (replay book goals steps))
  holds_after r xs cs h steps e =
      subst (λ q. Holds cs (recorded k q))
      (sym (leads_replay book (start goals) xs r h.leads) ∙ ap (replay book goals) (sym e))
      (record { solved = h.solved; used = h.number; means = h.means })

  -- the search
  pub searched : (lim : Limits) → k.used + lim.free ≤ most → (turns : ℕ) (e : Ended V) →
      solves same book k.used lim turns cells goals ≡ Some e → Searched book k lim goals e
  searched lim fits turns e q =
      let w = solves_right same law book rules k.equations k.used sound.in_use goals in_use lim fits turns
      cells kept_start e q in
      record {
        outcome = w.0;
        cells = λ n steps o.
            holds_after e.last.point.at e.last.point.steps e.last.cells w.1 steps
            (subst (λ z. AsGranted z e.last) o w.2);
      }

  -- the check
  pub checked : (free : ℕ) → k.used + free ≤ most → (steps : List Step) →
      Check book k.equations free goals steps (checks same book k.used free cells goals steps)
  checked free fits steps =
      checks_right same law book rules k.equations k.used sound.in_use goals in_use free fits cells
      kept_start steps

-- the theorem of the search
pub search_right : (V : Type 0) → SearchIsRight V
search_right V same law book rules k sound cells holds goals in_use lim fits turns e q =
    searched same law book rules k sound cells holds goals in_use lim fits turns e q

-- and that of the check
pub check_right : (V : Type 0) → CheckIsRight V
check_right V same law book rules k sound cells holds goals in_use free fits steps =
    checked same law book rules k sound cells holds goals in_use free fits steps
