-- The answers of solve are the executed ones.
use Rattle.std.proofs.Common.{◌≡◌, ℕ, ◌-◌, ◌<◌, ◌≤◌, Bool, List, length, take, Some, vec_items, Option, sym, refl, ap, ◌∙◌, subst, Decides as Tells}
use Rattle.std.proofs.lemmas.Bool.{lt-ltb, le-ltb}
use Rattle.theory.specs.Entries.{Entry, BookRules}
use Rattle.theory.specs.Search.{Outcome}
use Rattle.theory.specs.Calls.{Call, solve, refused, too_long}
use Rattle.theory.specs.Answers.{capacity, served, answer_of}
use Rattle.unify.specs.Cells as C
use Rattle.unify.specs.Theorems.{Decides}
use Rattle.cells.proofs.Sameness.{decided}
use Rattle.searching.specs.Solving.{solves}
use Rattle.cells.specs.declared.cell.Cell.{Cell}
use Rattle.cells.specs.Cells.{cells_of}
use Rattle.searching.specs.Answering.{Answered, answered, answers, refusing, left_by, by_searching}
use Rattle.searching.specs.Answering as M
use Rattle.slate.specs.declared.refusal.Refusal.{Refusal}
use Rattle.slate.specs.declared.slate.Slate.{Slate}
use Rattle.slate.specs.Refusals.{refusal_of}
use Rattle.slate.specs.Slates.{supplied, in_use, KeptOver}
use Rattle.slate.proofs.Executed.{executed}
use Rattle.frames.specs.Points.{EndsAs}
use Rattle.solver.specs.declared.bounds.Bounds.{Bounds}
use Rattle.solver.specs.Admission.{gate, Admitted}
use Rattle.solver.specs.Searching.{limits_of}

module _ {L : Type 0} (set : IsSet L) (alike : L → L → Bool) (decides : (x y : L) → Tells (alike x y) (x ≡ y)) (book : List (Entry L))
    (rules : ∥ BookRules book ∥₁) (old : Slate L) (goals : List ℕ) (budget steps work frames : ℕ) where
  law : Decides alike
  law = decided alike decides

  abbrev cs : List (C.Cell L)
  cs = in_use old

  abbrev call : Call L
  call = solve goals budget steps work frames

  -- the search that the answer rests on
  abbrev search : ℕ → Option (Answered L)
  search turns = by_searching cs (solves alike book (length cs) (M.limits_of alike book (supplied old) turns cs budget steps) turns cs goals)

  -- more than eight goals
  pub solve_too_long : 8 < length goals → KeptOver book old old call (refused too_long)
  unfolding answers refusing
  solve_too_long h =
      executed set alike law book rules old old 0 call (record { answer = refused too_long; cells = cs })
      (ap (λ t. refusing cs too_long t (gate cs (supplied old) goals work frames (served steps) (search 0)))
      (lt-ltb 8 (length goals) h)) refl refl

  module _ (few : length goals ≤ 8) where
    gated : (turns : ℕ) →
        answers alike book (supplied old) turns cs call ≡ gate cs (supplied old) goals work frames (served steps) (search turns)
    unfolding answers refusing
    gated turns =
        ap (λ t. refusing cs too_long t (gate cs (supplied old) goals work frames (served steps) (search turns)))
        (le-ltb 8 (length goals) few)

    -- goals or lists that are not admitted
    pub solve_refused : (e : Refusal) →
        ((rest : Option (Answered L)) →
        gate cs (supplied old) goals work frames (served steps) rest ≡ answered (refused (refusal_of e)) cs) →
        KeptOver book old old call (refused (refusal_of e))
    solve_refused e h =
        executed set alike law book rules old old 0 call (record { answer = refused (refusal_of e); cells = cs })
        (gated 0 ∙ h (search 0)) refl refl

    -- the search came to its outcome
    pub solve_searched : (b : Bounds) → b.budget ≡ budget → b.steps ≡ served steps → b.cells ≡ capacity (supplied old) →
        b.first ≡ length cs → (used : ℕ) → Admitted cs used (supplied old) goals work frames (served steps) →
        (o : Outcome) (last : List (C.Cell L)) → EndsAs alike book goals b.first cs (limits_of b) o last →
        (new : Slate L) → in_use new ≡ left_by cs last o → supplied new ≡ supplied old →
        KeptOver book old new call (answer_of o)
    unfolding by_searching
    solve_searched b eb es ec ef used ok o last ends new left many =
        let lim : limits_of b ≡ M.limits_of alike book (supplied old) ends.turns cs budget steps =
        λ i. record { budget = eb i; room = es i; free = ec i - ef i } in
        let found : solves alike book (length cs) (M.limits_of alike book (supplied old) ends.turns cs budget steps) ends.turns
        cs goals ≡ Some ends.ended =
        sym (λ i. solves alike book (ef i) (lim i) ends.turns cs goals) ∙ ends.is in
        executed set alike law book rules old new ends.turns call
        (record { answer = answer_of o; cells = left_by cs last o })
        (gated ends.turns
        ∙ (ok.passes (search ends.turns)
        ∙ (ap (by_searching cs) found
        ∙ (λ i. Some (record {
          answer = answer_of (ends.outcome i);
          cells = left_by cs (ends.last i) (ends.outcome i);
        }))))) left many

module _ {L : Type 0} (old : Slate L) (goals : List ℕ) (steps work frames : ℕ) (cells : List (Cell L)) (n k : ℕ)
    (cells_are : cells ≡ vec_items old.cells) (n_is : n ≡ supplied old) (k_is : k ≡ served steps) where
  -- what was admitted over the slate's cells
  pub admitted_over : Admitted (cells_of (take old.used cells)) old.used n goals work frames k →
      Admitted (in_use old) old.used (supplied old) goals work frames (served steps)
  admitted_over a =
      subst (λ x. Admitted (cells_of (take old.used x)) old.used (supplied old) goals work frames (served steps)) cells_are
      (subst (λ x. Admitted (cells_of (take old.used cells)) old.used x goals work frames (served steps)) n_is
      (subst (Admitted (cells_of (take old.used cells)) old.used n goals work frames) k_is a))

  -- what was refused over them
  pub refused_over : (e : Refusal) →
      ((rest : Option (Answered L)) →
      gate (cells_of (take old.used cells)) n goals work frames k rest
      ≡ answered (refused (refusal_of e)) (cells_of (take old.used cells))) →
      (rest : Option (Answered L)) →
      gate (in_use old) (supplied old) goals work frames (served steps) rest ≡ answered (refused (refusal_of e)) (in_use old)
  refused_over e h rest =
      subst (λ x. gate (cells_of (take old.used x)) (supplied old) goals work frames (served steps) rest
      ≡ answered (refused (refusal_of e)) (cells_of (take old.used x))) cells_are
      (subst (λ x. gate (cells_of (take old.used cells)) x goals work frames (served steps) rest
      ≡ answered (refused (refusal_of e)) (cells_of (take old.used cells))) n_is
      (subst (λ x. gate (cells_of (take old.used cells)) n goals work frames x rest
      ≡ answered (refused (refusal_of e)) (cells_of (take old.used cells))) k_is (h rest)))
