use Rattle.std.proofs.Common.{◌≡◌, ◌+◌, ◌<◌, ◌≤◌, length, take, sym, refl, ap, ◌∙◌, subst, subst₂, arith}
use Rattle.std.specs.List.{slice_get}
use Rattle.unify.specs.Cells.{most}
use Rattle.unify.specs.Unify.{State, clash, unify}
use Rattle.searching.specs.Trying.{copied}
use Rattle.cells.specs.Cells.{cells_of}
use Rattle.attempts.specs.Attempts.{parts_at, UnifiedOn}
use Rattle.attempts.proofs.Rules.{entry_parts, head_node, is_there, nth_within, outline_counts}
use Rattle.attempts.proofs.Fronts.{number_front}
use Rattle.attempts.proofs.Clashing.{unfit_clash}
use Rattle.attempts.proofs.Tries.{attempted}
use Rattle.attempts.proofs.store.Store.try_entry.Goals as goal

pub returns-then-not-head_fits-clause-is : goal.returns-then-not-head_fits-clause-is
returns-then-not-head_fits-clause-is g c =
    let es = g.B.Book.entries c.args.book.now in
    let rules = g.met.B.Book.rules c.args.book.now in
    let x = c.args.self.now.extent in
    let out = c.args.outline in
    let ps = parts_at es c.args.entry in
    let old = cells_of (take x.used c.args.self.now.cells.now) in
    let t = c.requires.tryable in
    let within : x.used ≤ length c.args.self.now.cells.now = omega (arith, t.fits) in
    let n : length old ≡ x.used = number_front x.used c.args.self.now.cells.now within in
    let count = outline_counts es c.args.entry out c.requires.outlined in
    let few : length old + length ps ≤ most = omega (arith, n, count, t.few) in
    let head = is_there (slice_get ps out.head) (head_node es rules c.args.entry out c.requires.outlined) in
    let goal : c.args.goal < length old = omega (arith, n, t.inside) in
    let clashes = unfit_clash g.L.PartialEq.eq old t.sound.solved ps (entry_parts es rules c.args.entry) few
    c.args.goal out.head goal head.0 head.1 (sym (c.if-not-head_fits.ensures head.0 head.1 head.2)) in
    record {
      tried = (
        subst (λ m. (s : State g.row.L.Denot) × (unify g.L.PartialEq.eq (copied (λ j. length old + j) old ps) c.args.goal
            (m + out.head) ≡ clash s)) n clashes,
        refl,
        refl,
      );
      sound = t.sound;
      fits = within;
      room = omega (arith, t.room);
      as_many = refl;
      as_long = refl;
    }

pub unify-requires : goal.unify-requires
unify-requires g c =
    let es = g.B.Book.entries c.args.book.now in
    let out = c.args.outline in
    let ps = parts_at es c.args.entry in
    let t = c.requires.tryable in
    let copy = c.copy_entry.ensures in
    let count = outline_counts es c.args.entry out c.requires.outlined in
    let head = is_there (slice_get ps out.head)
    (head_node es (g.met.B.Book.rules c.args.book.now) c.args.entry out c.requires.outlined) in
    let inside : out.head < length ps = nth_within ps out.head head.0 head.1 in
    record {
      sound = copy.is.sound;
      fits = omega (arith, t.fits, copy.is.as_many);
      room = omega (arith, t.room, ap length copy.work, ap (λ x. x.trail) copy.extent);
      first = omega (arith, t.inside);
      second = omega (arith, inside, count, c.from.ensures);
    }

pub returns-clause-is : goal.returns-clause-is
returns-clause-is g c =
    let ps = parts_at (g.B.Book.entries c.args.book.now) c.args.entry in
    let s = c.args.self.now in
    let s' = c.unify.new.self in
    let whole = s.extent.used + c.args.outline.cells in
    let copy = c.copy_entry.ensures in
    let t = c.requires.tryable in
    let more : s.extent.used ≤ whole = omega arith in
    let within : s.extent.used ≤ length s.cells.now = omega (arith, t.fits) in
    attempted g.L.PartialEq.eq ps c.args.goal (s.extent.used + c.from.result) (s.extent.used + c.args.outline.head)
    (ap (λ k. s.extent.used + k) c.from.ensures) s.cells.now c.copy_entry.new.self.cells.now s'.cells.now s.work.now
    s'.work.now s.extent s'.extent whole within more t.fits copy.is.is copy.is.as_many t.sound c.unify.result
    c.unify.ensures.stands (λ e. c.unify.ensures.falls e ∙ copy.extent)
    (subst₂ (λ w x. UnifiedOn g.L.PartialEq.eq c.args.goal (s.extent.used + c.from.result) c.unify.result whole
    c.copy_entry.new.self.cells.now w x.trail s'.cells.now s'.work.now s'.extent.trail) copy.work copy.extent
    c.unify.ensures.is)
