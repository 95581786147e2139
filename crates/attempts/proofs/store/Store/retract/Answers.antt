use Rattle.std.proofs.Common.{◌≡◌, ◌<◌, ◌++◌, take, drop, sym, ap, ◌∙◌, subst, subst₂}
use Rattle.std.specs.List.{AllByRecursion}
use Rattle.std.proofs.ByRecursion.{All-drop}
use Rattle.std.proofs.lemmas.List.{length-take-le}
use Rattle.std.proofs.lemmas.Slice.{between_is}
use Rattle.unify.specs.Solved.{Solved}
use Rattle.unify.specs.Unify.{clear}
use Rattle.cells.specs.Cells.{cells_of, AllCounted}
use Rattle.cells.proofs.Front.{front, front_as_many}
use Rattle.attempts.proofs.Fronts.{cells_front, counted_front}
use Rattle.attempts.proofs.store.Store.retract.Goals as goal

pub take_back-requires : goal.take_back-requires
take_back-requires g c =
    let x = c.args.self.now.extent in
    let work = c.args.self.now.work.now in
    record {
      counted = c.requires.sound.counted;
      inside = subst₂ (λ n l. AllByRecursion (λ i. i < n) l) (sym (length-take-le x.used c.args.self.now.cells.now c.requires.fits))
          (sym (between_is work _ x.trail)) (All-drop (λ i. i < x.used) _ (take x.trail work) c.requires.inside);
    }

pub returns-clause-is : goal.returns-clause-is
returns-clause-is g c =
    let x = c.args.self.now.extent in
    let to = c.args.to in
    let work = c.args.self.now.work.now in
    let xs = c.args.self.now.cells.now in
    let cells = cells_of (take x.used xs) in
    let part = c.take_back.new.cells in
    let f : take x.used (part ++ drop x.used xs) ≡ part = front x.used xs part c.requires.fits c.take_back.ensures.as_many in
    let cells' = part ++ drop x.used xs in
    let e : cells_of (take to.used cells') ≡ take to.used (clear (drop to.trail (take x.trail work)) cells) =
    cells_front to.used x.used cells' c.requires.used
    ∙ ap (take to.used) (ap cells_of f ∙ c.take_back.ensures.is ∙ ap (λ l. clear l cells) (between_is work to.trail x.trail)) in
    record {
      is = e;
      sound = record {
        solved = subst Solved (sym e) c.requires.solved;
        counted = counted_front to.used x.used cells' c.requires.used (subst AllCounted (sym f) c.take_back.ensures.counted);
      };
      as_many = front_as_many x.used xs part c.requires.fits c.take_back.ensures.as_many;
    }
