use Rattle.std.proofs.Common.{◌≡◌, ◌+◌, ◌<◌, length, take, set, None, sym, refl, ap, ◌∙◌, subst, add-zero, arith}
use Rattle.std.specs.List.{slice_get}
use Rattle.std.proofs.lemmas.List.{length-set, take_all}
use Rattle.unify.specs.Solved.{Solved}
use Rattle.searching.specs.Trying.{copied}
use Rattle.cells.specs.Cells.{cells_of, AllCounted}
use Rattle.book.specs.Answers.{part_of}
use Rattle.attempts.specs.Attempts.{parts_at}
use Rattle.attempts.proofs.Rules.{cell_is, entry_parts, few_at, nth_there}
use Rattle.attempts.proofs.Copying.{copied_solved}
use Rattle.attempts.proofs.Fronts.{number_front}
use Rattle.attempts.proofs.Instances.{one_copied, one_counted}
use Rattle.attempts.proofs.store.Store.copy_entry.Goals as goal
use Rattle.attempts.proofs.store.Store.copy_entry.Goals.{in-Some, in_default}

pub loop-j-init : goal.loop-j-init
unfolding copied
loop-j-init g c =
    let cells = c.args.self.now.cells.now in
    let base = c.args.self.now.extent.used in (
      ap (λ n. cells_of (take n cells)) (add-zero base),
      subst (λ n. AllCounted (take n cells)) (sym (add-zero base)) c.requires.sound.counted,
      refl,
      refl,
      refl,
      record { cells = refl; work = refl },
    )

pub content-requires-clause-few : goal.content-requires-clause-few
content-requires-clause-few g c =
    let es = g.B.Book.entries c.args.book.now in
    few_at 0 (parts_at es c.args.number)
    (entry_parts es (g.met.B.Book.rules c.args.book.now) c.args.number) c.loop-j.j c.in-Some.cell
    (sym (c.in-Some.ensures ∙ cell_is (slice_get es c.args.number) c.loop-j.j))

pub loop-j-preserved : goal.loop-j-preserved
loop-j-preserved g c =
    let es = g.B.Book.entries c.args.book.now in
    let o = slice_get es c.args.number in
    let ps = parts_at es c.args.number in
    let base = c.args.self.now.extent.used in
    let j = c.loop-j.j in
    let cells = c.args.self.now.cells.now in
    let old = cells_of (take base cells) in
    let xs = c.loop-j.self.cells.now in
    let inv = c.loop-j.invariant in
    let inside : base + j < length xs = omega (arith, c.requires.fits, c.loop-j-test.true, inv.2) in
    elim c.match-cell.branch [
      | in-Some w ↦
          let d = w.content.result in
          let new = set xs (base + j) (record { content = d; joined = None }) in
          let at = sym (w.in-Some.ensures ∙ cell_is o j) in
          let t = subst (λ ys. (cells_of (take (base + (j + 1)) ys) ≡ copied (λ i. base + i) old (take (j + 1) ps))
          × AllCounted (take (base + (j + 1)) ys) × (length ys ≡ length cells))
          (sym (ap (λ z. z.cells.now) w.self-is ∙ ap (set xs (base + j)) w.into.ensures)) (
            one_copied base j xs d inside old ps (part_of w.in-Some.cell) at w.content.ensures.is inv.0,
            one_counted base j xs d inside w.content.ensures.counted inv.1,
            length-set xs (base + j) (record { content = d; joined = None }) ∙ inv.2,
          ) in (
            t.0,
            t.1,
            t.2,
            ap (λ z. z.work.now) w.self-is ∙ inv.3,
            ap (λ z. z.extent) w.self-is ∙ inv.4,
            record {
              cells = ap (λ z. z.cells.ghost_name) w.self-is ∙ inv.5.cells;
              work = ap (λ z. z.work.ghost_name) w.self-is ∙ inv.5.work;
            },
          )
      | in_default w ↦
          absurd (nth_there ps j (omega (arith, c.loop-j-test.true, c.requires.whole)) (sym (w.in_default.ensures ∙ cell_is o j)))
    ]

pub returns-clause-is : goal.returns-clause-is
returns-clause-is g c =
    let es = g.B.Book.entries c.args.book.now in
    let ps = parts_at es c.args.number in
    let base = c.args.self.now.extent.used in
    let cells = c.args.self.now.cells.now in
    let old = cells_of (take base cells) in
    let at : c.loop-j.j ≡ c.args.count = omega (arith, c.loop-j-test.false, c.loop-j.auto.j-end) in
    let inv = c.loop-j.invariant in
    let all : take c.loop-j.j ps ≡ ps = take_all c.loop-j.j ps (omega (arith, at, c.requires.whole)) in
    let is : cells_of (take (base + c.args.count) c.loop-j.self.cells.now) ≡ copied (λ i. base + i) old ps =
    ap (λ n. cells_of (take (base + n) c.loop-j.self.cells.now)) (sym at) ∙ (inv.0 ∙ ap (copied (λ i. base + i) old) all) in
    let n : length old ≡ base = number_front base cells (omega (arith, c.requires.fits)) in
    record {
      is = is;
      sound = record {
        solved = subst Solved (sym is)
            (copied_solved base ps 0 old c.requires.sound.solved (n ∙ sym (add-zero base))
            (entry_parts es (g.met.B.Book.rules c.args.book.now) c.args.number)
            (omega (arith, n, c.requires.whole, c.requires.few)));
        counted = subst (λ n. AllCounted (take (base + n) c.loop-j.self.cells.now)) at inv.1;
      };
      as_many = inv.2;
    }
