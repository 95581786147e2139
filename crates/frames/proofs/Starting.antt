-- Where a search or a check begins, and the record of the steps that stand.
use Rattle.std.proofs.Common.{◌≡◌, ℕ, zero, suc, ◌+◌, ◌<◌, ◌≤◌, Bool, List, [], ◌∷◌, map, length, take, Some, None, Option, sym, refl, ap, ◌∙◌, subst, le_refl, arith, length-take}
use lib.ListN.{length-map}
use Rattle.std.specs.List.{slice_get}
use Rattle.std.proofs.lemmas.List.{take_all}
use Rattle.theory.specs.Entries.{Entry, Part}
use Rattle.theory.specs.Records.{Replay, start}
use Rattle.theory.specs.Records as T
use Rattle.theory.specs.Search.{Limits, tries}
use Rattle.theory.proofs.Elements.{none_some}
use Rattle.unify.specs.Cells.{Content, Cell, unjoined}
use Rattle.unify.specs.Solved.{Solved}
use Rattle.unify.specs.Unify.{clear}
use Rattle.unify.specs.Writing.{write}
use Rattle.unify.proofs.CellLaws.{unjoined_few}
use Rattle.searching.specs.Trying.{content_of, copied}
use Rattle.searching.specs.Solving.{spot, first_point, solves}
use Rattle.calls.specs.Steps.{step_of}
use Rattle.frames.specs.declared.frame.Goal.{Goal}
use Rattle.frames.specs.declared.frame.Frame.{Frame}
use Rattle.frames.specs.declared.frame.Cursor.{Cursor}
use Rattle.frames.specs.Goals.{Pends, First, NextGoal}
use Rattle.frames.specs.Tries.{first_cursor, Leftover}
use Rattle.frames.specs.Levels.{Level, Facing}
use Rattle.frames.specs.Points.{Searching}
use Rattle.frames.proofs.Leaving.{all_left}

module _ {A : Type 0} where
  -- lists that agree at each place are one
  pub same_lists : (xs ys : List A) → length xs ≡ length ys →
      ((s : ℕ) (y : A) → slice_get ys s ≡ Some y → slice_get xs s ≡ Some y) → xs ≡ ys
  same_lists [] [] n h = refl
  same_lists [] (y ∷ ys) n h = absurd (none_some (h 0 y refl))
  same_lists (x ∷ xs) [] n h = absurd (omega arith)
  same_lists (x ∷ xs) (y ∷ ys) n h =
      let e : x ≡ y = Rattle.theory.proofs.Elements.some_inj (h 0 y refl) in
      λ i. e i ∷ same_lists xs ys (omega arith) (λ s z q. h (suc s) z q) i

  nth_take : (n : ℕ) (xs : List A) (s : ℕ) (x : A) → slice_get (take n xs) s ≡ Some x → (s < n) × (slice_get xs s ≡ Some x)
  nth_take zero [] s x e = absurd (none_some e)
  nth_take zero (y ∷ ys) s x e = absurd (none_some e)
  nth_take (suc n) [] s x e = absurd (none_some e)
  nth_take (suc n) (y ∷ ys) zero x e = (omega arith, e)
  nth_take (suc n) (y ∷ ys) (suc s) x e = let z = nth_take n ys s x e in (let h : s < n = z.0 in omega arith, z.1)

  nth_mapped : {B : Type 0} (f : A → B) (xs : List A) (s : ℕ) (y : B) → slice_get (map f xs) s ≡ Some y →
      (x : A) × (slice_get xs s ≡ Some x) × (f x ≡ y)
  nth_mapped f [] s y e = absurd (none_some e)
  nth_mapped f (x ∷ xs) zero y e = (x, refl, Rattle.theory.proofs.Elements.some_inj e)
  nth_mapped f (x ∷ xs) (suc s) y e = nth_mapped f xs s y e

module _ {V : Type 0} (at : ℕ → ℕ) where
  unjoined_write : (cells : List (Cell V)) (c : Content V) → unjoined (write cells c) ≡ unjoined cells + 1
  unfolding unjoined write
  unjoined_write [] c = refl
  unjoined_write (d ∷ cells) c = let h = unjoined_write cells c in omega arith

  -- the cells of an instance are joined to none
  pub unjoined_copied : (ps : List (Part V)) (cells : List (Cell V)) → unjoined (copied at cells ps) ≡ unjoined cells + length ps
  unfolding copied
  unjoined_copied [] cells = omega arith
  unjoined_copied (p ∷ ps) cells =
      let h = unjoined_copied ps (write cells (content_of at p)) in
      let w = unjoined_write cells (content_of at p) in
      omega arith

module _ {V : Type 0} (book : List (Entry V)) (goals : List ℕ) (frames : List Frame) where
  -- the steps that stand are those of the frames
  pub steps_are : (used₀ : ℕ) (cells₀ : List (Cell V)) (n : ℕ) (r : Replay V) (steps : List T.Step) (cells : List (Cell V))
      (trail : List ℕ) → Level book goals used₀ cells₀ frames n r steps cells trail →
      steps ≡ map (λ (f : Frame). step_of f.step) (take n frames)
  steps_are used₀ cells₀ n r steps cells trail level =
      same_lists steps (map (λ (f : Frame). step_of f.step) (take n frames))
      (let a : length steps ≡ n = level.recorded in
      let b : n ≤ length frames = level.framed in
      omega (arith, length-map (take n frames) (λ (f : Frame). step_of f.step), length-take n frames))
      (λ s y e.
      let z = nth_mapped (λ (f : Frame). step_of f.step) (take n frames) s y e in
      let w = nth_take n frames s z.0 z.1 in
      (level.tells s z.0 w.1 w.0).step ∙ ap Some z.2)

  -- no step stands
  pub start_level : (cells : List (Cell V)) → Solved cells →
      Level book goals (length cells) cells frames 0 (start goals) [] cells []
  unfolding clear
  start_level cells ok = record {
    taken = refl;
    offsets = refl;
    recorded = refl;
    framed = omega arith;
    tells = λ s f e h. absurd (omega arith);
    number = omega arith;
    solved = ok;
    room = let h : unjoined cells ≤ length cells = unjoined_few cells in omega arith;
    inside = tt;
    undone = take_all (length cells) cells (le_refl (length cells));
  }

  -- the goals of the list pend
  pub start_pends : Pends book goals frames [] None 0 (start {V = V} goals).pending
  start_pends = (refl, refl)

  module _ (same : V → V → Bool) (lim : Limits) (cells : List (Cell V)) (ok : Solved cells) (goal : Option Goal) (c : Cursor)
      (found : NextGoal book goals frames None 0 goal) (first : (y : Goal) → goal ≡ Some y → c ≡ first_cursor y) where
    faced : (g : Option Goal) → g ≡ goal → First book goals frames None g (start {V = V} goals).pending →
        Facing book goals (length cells) cells frames 0 g c (start {V = V} goals).pending
        (tries book (start {V = V} goals).pending)
    faced None e w = w
    faced (Some y) e w = (
      w.0,
      w.1,
      subst (λ d. Leftover book frames 0 y.inner w.0.chain d (tries book (start {V = V} goals).pending))
          (sym (first y (sym e))) (all_left book goals frames 0 y (start {V = V} goals).pending w.0 w.1),
    )

    -- the search begins
    pub start_searching : Searching same book goals (length cells) cells lim frames 0 goal c 0 cells []
    unfolding solves
    start_searching = record {
      spot = spot (first_point same book (length cells) lim goals) cells;
      below = [];
      represents = record {
        lying = refl;
        level = start_level cells ok;
        facing = faced goal refl (found [] (start {V = V} goals).pending start_pends);
        stack = refl;
      };
      leads = λ k e p. (k, p);
    }
