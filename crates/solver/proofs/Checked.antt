-- The answer of check is the executed one.
use Rattle.std.proofs.Common.{◌≡◌, ℕ, ◌-◌, ◌*◌, ◌<◌, ◌≤◌, Bool, ◌||◌, ltb, ◌⊎◌, List, length, take, vec_items, Option, Result, sym, refl, ap, ◌∙◌, subst, inl, inr, arith, Decides as Tells}
use native.Mathlib.Nat.{min-le_left, min-le_right, le-min}
use lib.ListN.{length-map}
use Rattle.std.proofs.lemmas.Bool.{lt-ltb, le-ltb}
use Rattle.theory.specs.Entries.{Entry, BookRules}
use Rattle.theory.specs.Calls.{Call, Answer, check, refused, too_long}
use Rattle.theory.specs.Records as T
use Rattle.theory.specs.Answers.{capacity, answer_to}
use Rattle.unify.specs.Cells as C
use Rattle.unify.specs.Theorems.{Decides}
use Rattle.cells.proofs.Sameness.{decided}
use Rattle.searching.specs.Answering.{Answered, answered, refusing, answers}
use Rattle.searching.specs.Checking.{checks}
use Rattle.cells.specs.declared.cell.Cell.{Cell}
use Rattle.cells.specs.Cells.{cells_of, WellFormed}
use Rattle.calls.specs.declared.step.Step.{Step}
use Rattle.calls.specs.Steps.{step_of, steps_of}
use Rattle.slate.specs.declared.refusal.Refusal.{Refusal}
use Rattle.slate.specs.declared.slate.Slate.{Slate}
use Rattle.slate.specs.Refusals.{refusal_of}
use Rattle.slate.specs.Slates.{supplied, in_use, KeptOver}
use Rattle.slate.proofs.Answering.{as_used}
use Rattle.slate.proofs.Executed.{executed}
use Rattle.frames.specs.declared.frame.Frame.{Frame}
use Rattle.solver.specs.Admission.{gate, Admitted, Admits}
use Rattle.solver.specs.Runs.{Ready}
use Rattle.solver.specs.Checking.{bounds_of}

module _ {L : Type 0} (alike : L → L → Bool) (book : List (Entry L)) (n turns : ℕ) (cs : List (C.Cell L)) (goals : List ℕ)
    (steps : List T.Step) (work frames : ℕ) where
  abbrev rest : Option (Answered L)
  rest = answered (answer_to (checks alike book (length cs) (capacity n - length cs) cs goals steps)) cs

  -- too many goals, or too many steps
  too_many : (8 < length goals) ⊎ (4096 < length steps) →
      answers alike book n turns cs (check goals steps work frames) ≡ answered (refused too_long) cs
  unfolding answers refusing
  too_many (inl h) =
      ap (λ b. refusing cs too_long (b || ltb 4096 (length steps)) (gate cs n goals work frames (length steps) rest))
      (lt-ltb 8 (length goals) h)
  too_many (inr h) =
      ap (λ b. refusing cs too_long (ltb 8 (length goals) || b) (gate cs n goals work frames (length steps) rest))
      (lt-ltb 4096 (length steps) h) ∙ go (ltb 8 (length goals))
    where
      go : (b : Bool) → refusing cs too_long (b || Bool.true) (gate cs n goals work frames (length steps) rest)
          ≡ answered (refused too_long) cs
      go Bool.true = refl
      go Bool.false = refl

  -- few enough of both
  to_gate : length goals ≤ 8 → length steps ≤ 4096 →
      answers alike book n turns cs (check goals steps work frames) ≡ gate cs n goals work frames (length steps) rest
  unfolding answers refusing
  to_gate g s =
      ap (λ b. refusing cs too_long (b || ltb 4096 (length steps)) (gate cs n goals work frames (length steps) rest))
      (le-ltb 8 (length goals) g)
      ∙ ap (λ b. refusing cs too_long b (gate cs n goals work frames (length steps) rest)) (le-ltb 4096 (length steps) s)

module _ {L : Type 0} (set : IsSet L) (alike : L → L → Bool) (decides : (x y : L) → Tells (alike x y) (x ≡ y)) (book : List (Entry L))
    (rules : ∥ BookRules book ∥₁) (old : Slate L) (goals : List ℕ) (record_steps : List Step) (work frames : ℕ) where
  law : Decides alike
  law = decided alike decides

  abbrev call : Call L
  call = check goals (steps_of record_steps) work frames

  many : length (steps_of record_steps) ≡ length record_steps
  many = length-map record_steps step_of

  -- the call is refused, and the slate stays as it is
  stays : (a : Answer) → answers alike book (supplied old) 0 (in_use old) call ≡ answered a (in_use old) →
      KeptOver book old old call a
  stays a q = executed set alike law book rules old old 0 call (record { answer = a; cells = in_use old }) q refl refl

  pub long_kept : (8 < length goals) ⊎ (4096 < length record_steps) → KeptOver book old old call (refused too_long)
  long_kept h =
      stays (refused too_long) (too_many alike book (supplied old) 0 (in_use old) goals (steps_of record_steps) work frames (go h))
    where
      go : (8 < length goals) ⊎ (4096 < length record_steps) → (8 < length goals) ⊎ (4096 < length (steps_of record_steps))
      go (inl k) = inl k
      go (inr k) = inr (subst (λ m. 4096 < m) (sym many) k)

  module _ (few : length goals ≤ 8) (short : length record_steps ≤ 4096) where
    at_gate : answers alike book (supplied old) 0 (in_use old) call
        ≡ gate (in_use old) (supplied old) goals work frames (length record_steps)
        (rest alike book (supplied old) 0 (in_use old) goals (steps_of record_steps) work frames)
    at_gate =
        to_gate alike book (supplied old) 0 (in_use old) goals (steps_of record_steps) work frames few
        (subst (λ m. m ≤ 4096) (sym many) short)
        ∙ ap (λ m. gate (in_use old) (supplied old) goals work frames m
        (rest alike book (supplied old) 0 (in_use old) goals (steps_of record_steps) work frames)) many

    pub refused_kept : (e : Refusal) → ((o : Option (Answered L)) →
        gate (in_use old) (supplied old) goals work frames (length record_steps) o ≡ answered (refused (refusal_of e)) (in_use old)) →
        KeptOver book old old call (refused (refusal_of e))
    refused_kept e h = stays (refused (refusal_of e)) (at_gate ∙ h _)

    module _ (used : ℕ) (ok : Admitted (in_use old) used (supplied old) goals work frames (length record_steps)) where
      -- the record is replayed
      pub replayed_kept : (new : Slate L) (a : Answer) →
          a ≡ answer_to (checks alike book old.used (capacity (supplied old) - old.used) (in_use old) goals (steps_of record_steps)) →
          in_use new ≡ in_use old → supplied new ≡ supplied old → KeptOver book old new call a
      replayed_kept new a e p m =
          let q : a ≡ answer_to (checks alike book (length (in_use old)) (capacity (supplied old) - length (in_use old)) (in_use old)
          goals (steps_of record_steps)) =
          e ∙ sym (ap (λ k. answer_to (checks alike book k (capacity (supplied old) - k) (in_use old) goals (steps_of record_steps)))
          (as_used old)) in
          executed set alike law book rules old new 0 call (record { answer = a; cells = in_use old })
          (at_gate ∙ (ok.passes _ ∙ ap (λ z. answered z (in_use old)) (sym q))) p m

-- what is said of a slate's cells as a list
pub over_slate : {L U : Type 0} (s : Slate L) (l : List (Cell L)) → l ≡ vec_items s.cells → (goals : List ℕ)
    (work frames needed : ℕ) (r : Result U Refusal) →
    Admits (cells_of (take s.used l)) s.used (length l) goals work frames needed r →
    Admits (in_use s) s.used (supplied s) goals work frames needed r
over_slate s l e goals work frames needed r h =
    subst (λ k. Admits (in_use s) s.used k goals work frames needed r) (sym s.cells.ok.0)
    (subst (λ z. Admits (cells_of (take s.used z)) s.used (length z) goals work frames needed r) e h)

-- the lists are ready for a replay
pub ready_for : {L : Type 0} (s : Slate L) (goals : List ℕ) (record_steps : List Step) (work : List ℕ) (frames : List Frame) →
    length goals ≤ 8 → length record_steps ≤ 4096 →
    Admitted (in_use s) s.used (supplied s) goals (length work) (length frames) (length record_steps) →
    WellFormed (take s.used (vec_items s.cells)) →
    Ready goals (bounds_of (length record_steps) (capacity (supplied s)) s.used) (vec_items s.cells) work frames
ready_for s goals record_steps work frames few short ok sound =
    let h : capacity (supplied s) ≤ supplied s = min-le_left (supplied s) 2048 in
    let k : capacity (supplied s) ≤ 2048 = min-le_right (supplied s) 2048 in
    let m : supplied s ≡ length (vec_items s.cells) = s.cells.ok.0 in
    let w : 9 * capacity (supplied s) ≤ length work = ok.long in
    record {
      basis = record {
        few_goals = few;
        low = ok.low;
        begin = begin;
        fits = omega arith;
        few = k;
        long = omega arith;
        framed = ok.framed;
        short = short;
      };
      sound = sound;
    }
  where
    begin : s.used ≤ capacity (supplied s)
    begin = le-min s.within s.few
