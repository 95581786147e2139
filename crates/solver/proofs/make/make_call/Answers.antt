use Rattle.std.proofs.Common.{length, sym, refl, ap, ◌∙◌, rules}
use Rattle.theory.specs.Calls.{write_node, equate, compare, check}
use Rattle.calls.specs.Steps.{steps_of}
use Rattle.slate.specs.Slates.{wrote_or, accepted_or, same_or}
use Rattle.solver.specs.Checking.{passes_or}
use Rattle.solver.specs.Sitting.{lent}
use Rattle.solver.proofs.Answered.{answered_is}
use Rattle.solver.proofs.Sittings.{made_kept, made_over, lent_length}
use Rattle.solver.proofs.make.make_call.Goals as goal

pub returns-in-Open : goal.returns-in-Open
returns-in-Open g c =
    made_kept (g.B.Book.entries c.args.book.now) (g.met.B.Book.rules c.args.book.now) c.args.slate.now
    c.open.new.self _ _ (wrote_or c.open.result)
    (sym (ap (lent (length c.args.steps.now) (length c.args.work.now) (length c.args.frames.now)) c.in-Open.is))
    c.answered.result c.open.ensures.kept c.open.ensures.carries
    (answered_is wrote_or _ c.open.result c.answered.ensures (λ n h. search rules) (λ e. refl))

pub returns-in-Leaf : goal.returns-in-Leaf
returns-in-Leaf g c =
    made_kept (g.B.Book.entries c.args.book.now) (g.met.B.Book.rules c.args.book.now) c.args.slate.now
    c.leaf.new.self _ _ (wrote_or c.leaf.result)
    (sym (ap (lent (length c.args.steps.now) (length c.args.work.now) (length c.args.frames.now)) c.in-Leaf.is))
    c.answered-in-Leaf.result c.leaf.ensures.kept c.leaf.ensures.carries
    (answered_is wrote_or _ c.leaf.result c.answered-in-Leaf.ensures (λ n h. search rules) (λ e. refl))

pub returns-in-Node : goal.returns-in-Node
returns-in-Node g c =
    made_kept (g.B.Book.entries c.args.book.now) (g.met.B.Book.rules c.args.book.now) c.args.slate.now
    c.node.new.self _ _ (wrote_or c.node.result)
    (ap (write_node c.in-Node.symbol) c.as_slice.ensures.value
    ∙ sym (ap (lent (length c.args.steps.now) (length c.args.work.now) (length c.args.frames.now)) c.in-Node.is))
    c.answered-in-Node.result c.node.ensures.kept c.node.ensures.carries
    (answered_is wrote_or _ c.node.result c.answered-in-Node.ensures (λ n h. search rules) (λ e. refl))

pub returns-in-Equate : goal.returns-in-Equate
returns-in-Equate g c =
    made_kept (g.B.Book.entries c.args.book.now) (g.met.B.Book.rules c.args.book.now) c.args.slate.now
    c.equate-result.new.self _ _ (accepted_or c.equate-result.result)
    (ap (equate c.in-Equate.left c.in-Equate.right)
    (lent_length c.in-Equate.n c.min-room.result c.args.work.now c.min-room.ensures)
    ∙ sym (ap (lent (length c.args.steps.now) (length c.args.work.now) (length c.args.frames.now)) c.in-Equate.is))
    c.answered-in-Equate.result c.equate-result.ensures.kept c.equate-result.ensures.carries
    (answered_is accepted_or _ c.equate-result.result c.answered-in-Equate.ensures (λ n h. search rules) (λ e. refl))

pub returns-in-Compare : goal.returns-in-Compare
returns-in-Compare g c =
    made_kept (g.B.Book.entries c.args.book.now) (g.met.B.Book.rules c.args.book.now) c.args.slate.now
    c.compare-result.new.self _ _ (same_or c.compare-result.result)
    (ap (compare c.in-Compare.left c.in-Compare.right)
    (lent_length c.in-Compare.n c.min-room-in-Compare.result c.args.work.now c.min-room-in-Compare.ensures)
    ∙ sym (ap (lent (length c.args.steps.now) (length c.args.work.now) (length c.args.frames.now)) c.in-Compare.is))
    c.answered-in-Compare.result c.compare-result.ensures.kept c.compare-result.ensures.carries
    (answered_is same_or _ c.compare-result.result c.answered-in-Compare.ensures (λ n h. search rules) (λ e. refl))

pub returns-in-Check : goal.returns-in-Check
returns-in-Check g c =
    made_over (g.B.Book.entries c.args.book.now) (g.met.B.Book.rules c.args.book.now) c.args.slate.now
    c.check-result.new.slate _ _ (passes_or c.check-result.result)
    ((λ i. check (c.as_slice-in-Check.ensures.value i) (steps_of (c.as_slice-in-Check-2.ensures.value i))
    (lent_length c.in-Check.n c.min-n-in-Check.result c.args.work.now c.min-n-in-Check.ensures i)
    (lent_length c.in-Check.m c.min-m-in-Check.result c.args.frames.now c.min-m-in-Check.ensures i))
    ∙ sym (ap (lent (length c.args.steps.now) (length c.args.work.now) (length c.args.frames.now)) c.in-Check.is))
    _ c.check-result.ensures.kept
    (answered_is passes_or _ c.check-result.result c.answered-in-Check.ensures (λ n h. search rules) (λ e. refl))
