use Rattle.std.proofs.Common.{◌≡◌, ℕ, ◌<◌, List, ◌∷◌, length, set, Some, Bor, MutBor, sym, refl, subst, subst₂, add-one, arith, length-set}
use Rattle.std.specs.List.{slice_get}
use Rattle.frames.specs.declared.frame.Frame.{Frame}
use Rattle.frames.specs.Goals.{Pending, NextGoal}
use Rattle.frames.proofs.Pushing.{nth_set_apart, nth_set_here, pends_after}
use Rattle.solver.specs.Steps.{frame_of}
use Rattle.solver.proofs.derivation.Derivation.take_step.Goals as goal

pub next_goal-self-requires : goal.next_goal-self-requires
next_goal-self-requires g c =
    let d = c.args.self.now in
    let a = c.if-not-try_step.ensures.alone in
    let n = d.depth in
    let f = frame_of c.args.goal c.args.step d.store.now.extent in
    subst (λ (fs : MutBor (List Frame)). Pending (g.B.Book.entries c.try_step.new.self.book.now) c.try_step.new.self.goals.now
    (set fs.now n f) (Some n) 0) (sym a.frames)
    (subst₂ (λ (b : Bor _) (l : Bor (List ℕ)). Pending (g.B.Book.entries b.now) l.now (set d.frames.now n f) (Some n) 0)
    (sym a.book) (sym a.goals) (
      n ∷ c.requires.current.chain,
      _,
      c.requires.few_goals,
      pends_after (g.B.Book.entries d.book.now) d.goals.now d.frames.now (set d.frames.now n f) n c.args.goal c.requires.pending
          c.requires.current c.requires.lower (λ s h. nth_set_apart d.frames.now n s f h) f
          (nth_set_here d.frames.now n f c.requires.room) refl c.requires.try.tryable.inside
          (let h = c.requires.try.tryable.few in omega arith),
    ))

pub returns-clause-is : goal.returns-clause-is
returns-clause-is g c =
    let d = c.args.self.now in
    let a = c.if-not-try_step.ensures.alone in
    let n = d.depth in
    let f = frame_of c.args.goal c.args.step d.store.now.extent in
    let w = subst (λ (fs : MutBor (List Frame)). ((s : ℕ) → s < n → slice_get (set fs.now n f) s ≡ slice_get d.frames.now s)
    × (slice_get (set fs.now n f) n ≡ Some f) × (length (set fs.now n f) ≡ length d.frames.now)) (sym a.frames) (
      (λ s h. nth_set_apart d.frames.now n s f h),
      nth_set_here d.frames.now n f c.requires.room,
      length-set d.frames.now n f,
    ) in
    record {
      tried = c.if-not-try_step.ensures.is;
      taken = (
        w.0,
        w.1,
        add-one n,
        subst₂ (λ (b : Bor _) (l : Bor (List ℕ)). NextGoal (g.B.Book.entries b.now) l.now
            (set c.try_step.new.self.frames.now n f) (Some n) 0 c.next_goal-self.result) a.book a.goals c.next_goal-self.ensures,
      );
      as_long = w.2;
    }
