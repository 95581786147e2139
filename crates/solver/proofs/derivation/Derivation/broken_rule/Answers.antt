use Rattle.std.proofs.Common.{◌<◌, ◌≤◌, ap, ◌∙◌, subst}
use Rattle.std.proofs.lemmas.Bool.{not-true, not-false}
use Rattle.frames.specs.Modes.{mode_number}
use Rattle.solver.proofs.Forms.{bad_loop_inner, bad_loop, bad_entry_outer, bad_entry}
use Rattle.solver.proofs.Forms.{good_clause, good_loop, good_entry}
use Rattle.solver.proofs.derivation.Derivation.broken_rule.Goals as goal
use Rattle.solver.proofs.derivation.Derivation.broken_rule.Goals.{then-goal-2-via-then-goal-2, then-goal-2-via-else-goal-2+then-not-on_path}
use Rattle.solver.proofs.derivation.Derivation.broken_rule.Goals.{then-not-goal-via-then-not-goal, then-not-goal-via-else-not-goal+then-len-number}

pub returns-then-goal-2 : goal.returns-then-goal-2
returns-then-goal-2 g c =
    let book = g.B.Book.entries c.args.self.now.book.now in
    elim c.then-goal-2.branch [
      | then-goal-2-via-then-goal-2 w ↦
          bad_loop_inner book c.args.self.now.frames.now c.args.goal c.args.step (c.in-Ok-Loop.ensures ∙ ap mode_number c.in-Ok-Loop.field-0-is) w.if-goal-2.true
      | then-goal-2-via-else-goal-2+then-not-on_path w ↦
          bad_loop book c.args.self.now.frames.now c.args.goal c.args.step (c.in-Ok-Loop.ensures ∙ ap mode_number c.in-Ok-Loop.field-0-is) w.if-goal-2.false
          w.if-not-on_path.ensures
    ]

pub returns-then-not-goal : goal.returns-then-not-goal
returns-then-not-goal g c =
    let book = g.B.Book.entries c.args.self.now.book.now in
    elim c.then-not-goal.branch [
      | then-not-goal-via-then-not-goal w ↦
          bad_entry_outer book c.args.self.now.frames.now c.args.goal c.args.step (c.in-Ok-Entry.ensures ∙ ap mode_number c.in-Ok-Entry.field-0-is) (not-true c.args.goal.inner w.if-not-goal.true)
      | then-not-goal-via-else-not-goal+then-len-number w ↦
          bad_entry book c.args.self.now.frames.now c.args.goal c.args.step (c.in-Ok-Entry.ensures ∙ ap mode_number c.in-Ok-Entry.field-0-is) (not-false c.args.goal.inner w.if-not-goal.false)
          (subst (λ k. k ≤ c.args.step.number) w.len.ensures w.if-len-number.true)
    ]

pub returns-else-not-is_clause : goal.returns-else-not-is_clause
returns-else-not-is_clause g c =
    good_clause (g.B.Book.entries c.args.self.now.book.now) c.args.self.now.frames.now c.args.goal c.args.step
    (g.met.B.Book.rules c.args.self.now.book.now) (c.in-Ok-Clause.ensures ∙ ap mode_number c.in-Ok-Clause.field-0-is) c.if-goal.false c.if-not-is_clause.ensures

pub returns-else-not-on_path : goal.returns-else-not-on_path
returns-else-not-on_path g c =
    good_loop (g.B.Book.entries c.args.self.now.book.now) c.args.self.now.frames.now c.args.goal c.args.step
    (c.in-Ok-Loop.ensures ∙ ap mode_number c.in-Ok-Loop.field-0-is) c.if-goal-2.false c.if-not-on_path.ensures

pub returns-else-len-number : goal.returns-else-len-number
returns-else-len-number g c =
    good_entry (g.B.Book.entries c.args.self.now.book.now) c.args.self.now.frames.now c.args.goal c.args.step
    (g.met.B.Book.rules c.args.self.now.book.now) (c.in-Ok-Entry.ensures ∙ ap mode_number c.in-Ok-Entry.field-0-is) (not-false c.args.goal.inner c.if-not-goal.false)
    (subst (λ k. c.args.step.number < k) c.len.ensures c.if-len-number.false)
