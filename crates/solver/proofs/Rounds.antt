-- A whole search: how it begins, and what it leaves.
use Rattle.std.proofs.Common.{◌≡◌, ℕ, ◌+◌, ◌<◌, ◌≤◌, Bool, true, false, List, [], length, take, Ok, Err, Result, sym, refl, ◌∙◌, subst, arith}
use Rattle.std.specs.List.{AllByRecursion}
use Rattle.std.specs.Result.{is_err}
use Rattle.theory.specs.Entries.{Entry}
use Rattle.unify.specs.Cells as C
use Rattle.unify.specs.Solved.{Solved}
use Rattle.searching.specs.Answering.{left_by}
use Rattle.cells.specs.declared.cell.Cell.{Cell}
use Rattle.cells.specs.Cells.{cells_of}
use Rattle.attempts.specs.declared.extent.Extent.{Extent}
use Rattle.attempts.specs.Attempts.{Retractable, Retracted}
use Rattle.frames.specs.declared.frame.Frame.{Frame}
use Rattle.frames.specs.declared.frame.Cursor.{Cursor}
use Rattle.frames.specs.Points.{Searching}
use Rattle.frames.proofs.Starting.{start_searching}
use Rattle.solver.specs.Standing.{Standing, Moment}
use Rattle.solver.specs.declared.bounds.Bounds.{Bounds}
use Rattle.solver.specs.declared.ending.Ending.{Ending}
use Rattle.solver.specs.declared.ending.Ending.TheVariants.{Failed, Spent, Full, Short}
use Rattle.solver.specs.Searching.{limits_of, frame_steps, outcome_of, in_use, origin, FirstTries, Running, Finished}
use Rattle.solver.specs.Runs.{Begun, Ready, Ran}
use Rattle.solver.proofs.Stepping.{in_use_number}

module _ {L : Type 0} (alike : L → L → Bool) (book : List (Entry L)) (goals : List ℕ) (b : Bounds) (cells : List (Cell L))
    (work : List ℕ) (frames : List Frame) (ready : Ready goals b cells work frames) where
  -- the cells in use when it begins
  abbrev cells₀ : List (C.Cell L)
  cells₀ = cells_of (take b.first cells)

  first_fits : b.first ≤ length cells
  first_fits =
      let h : b.first ≤ b.cells = ready.basis.begin in
      let k : b.cells ≤ length cells = ready.basis.fits in
      omega arith

  -- the search begins over them
  pub begins : (at : Standing) → Begun book goals frames b.first at → (c : Cursor) → FirstTries at.goal c →
      Running alike book goals b cells₀ cells work frames (record { at = at; cursor = c; count = 0 })
  begins at begun c first =
      subst (λ z. Running alike book goals b cells₀ cells work frames (record { at = z; cursor = c; count = 0 })) same (record {
        basis = ready.basis;
        filled = record { sound = ready.sound; used = ready.basis.begin; room = omega arith };
        depth = omega arith;
        count = omega arith;
        searching =
            subst (λ k. Searching alike book goals k cells₀ (limits_of b) frames 0 at.goal c 0 cells₀ [])
            (in_use_number b.first cells first_fits)
            (start_searching book goals frames alike (limits_of b) cells₀ ready.sound.solved at.goal c begun.goal first);
      })
    where
      same : record { depth = 0; extent = record { used = b.first; trail = 0 }; goal = at.goal } ≡ at
      same = λ i. record {
        depth = sym begun.depth i;
        extent = record { used = sym begun.all i; trail = sym begun.trail i };
        goal = at.goal;
      }

  -- these are the cells that the trail gives back
  pub begins_over : (at : Standing) → Begun book goals frames b.first at → (c : Cursor) → FirstTries at.goal c →
      origin b.first cells work at.extent ≡ cells₀
  begins_over at begun c first = (begins at begun c first).searching.represents.level.undone

  module _ (cells' : List (Cell L)) (work' : List ℕ) (frames' : List Frame) (m : Moment) (e : Result (Unit {0}) Ending)
      (done : Finished alike book goals b cells₀ cells' work' frames' m e) where
    abbrev x₀ : Extent
    x₀ = m.at.extent

    abbrev to : Extent
    to = record { used = b.first; trail = 0 }

    fits : x₀.used ≤ length cells'
    fits =
        let h : x₀.used ≤ b.cells = done.filled.used in
        let k : b.cells ≤ length cells' = done.basis.fits in
        omega arith

    number : length (in_use cells' x₀) ≡ x₀.used
    number = in_use_number x₀.used cells' fits

    -- all can be taken back
    pub rewindable : Retractable cells' work' x₀ to
    rewindable = record {
      sound = done.filled.sound;
      fits = fits;
      room = done.filled.room;
      used =
          let h : length (in_use cells' x₀) ≡ b.first + done.replay.cells = done.level.number in
          let k : length (in_use cells' x₀) ≡ x₀.used = number in
          omega arith;
      trail = omega arith;
      inside = subst (λ k. AllByRecursion (λ i. i < k) (take x₀.trail work')) number done.level.inside;
      solved = subst Solved (sym done.level.undone) ready.sound.solved;
    }

    -- a grant leaves what it came to
    pub grants : (same : length cells' ≡ length cells) → is_err e ≡ false →
        Ran alike book goals b cells₀ cells cells' frames'
        (record { ending = e; count = m.count; depth = m.at.depth; used = x₀.used })
    unfolding left_by
    grants same g = record {
      last = in_use cells' x₀;
      ends = done.ends;
      left = kept e g;
      sound = done.filled.sound;
      used = done.filled.used;
      depth = done.depth;
      as_many = same;
    }
      where
        kept : (d : Result (Unit {0}) Ending) → is_err d ≡ false →
            in_use cells' x₀ ≡ left_by cells₀ (in_use cells' x₀) (outcome_of d m.count (frame_steps (take m.at.depth frames')))
        kept (Ok u) q = refl
        kept (Err d) q = absurd (Rattle.frames.proofs.Following.true_false q)

    -- all else leaves the cells as they were
    pub leaves : (same : length cells' ≡ length cells) → is_err e ≡ true → (cells'' : List (Cell L)) →
        Retracted cells' work' x₀ to cells'' → (x : Extent) → x ≡ to →
        Ran alike book goals b cells₀ cells cells'' frames'
        (record { ending = e; count = m.count; depth = m.at.depth; used = x.used })
    unfolding left_by
    leaves same g cells'' r x xe =
        subst (λ z. Ran alike book goals b cells₀ cells cells'' frames'
        (record { ending = e; count = m.count; depth = m.at.depth; used = z.used })) (sym xe) (record {
          last = in_use cells' x₀;
          ends = done.ends;
          left = (r.is ∙ done.level.undone) ∙ kept e g;
          sound = r.sound;
          used = ready.basis.begin;
          depth = done.depth;
          as_many = r.as_many ∙ same;
        })
      where
        kept : (d : Result (Unit {0}) Ending) → is_err d ≡ true →
            cells₀ ≡ left_by cells₀ (in_use cells' x₀) (outcome_of d m.count (frame_steps (take m.at.depth frames')))
        kept (Ok u) q = absurd (Rattle.frames.proofs.Following.true_false (sym q))
        kept (Err Failed) q = refl
        kept (Err Spent) q = refl
        kept (Err Full) q = refl
        kept (Err Short) q = refl
