use Rattle.std.proofs.Common.{◌+◌, length, take, sym, ap, ◌∙◌}
use Rattle.std.specs.List.{slice_get}
use Rattle.unify.specs.Cells.{content_at}
use Rattle.unify.proofs.Places.{some_same}
use Rattle.book.proofs.Listed.{length_listed}
use Rattle.book.specs.Answers.{listed, part_of}
use Rattle.cells.specs.Cells.{cells_of}
use Rattle.attempts.proofs.Heads.{head_open, head_leaf, head_same, head_other}
use Rattle.attempts.proofs.Rules.{cell_is}
use Rattle.attempts.proofs.store.Store.head_fits.Goals as goal

pub returns-in-Open : goal.returns-in-Open
returns-in-Open g c =
    let cs = cells_of (take c.args.self.now.extent.used c.args.self.now.cells.now) in
    λ p e h. head_open g.L.PartialEq.eq (λ j. length cs + j) _ _
    (c.in-Open.ensures.is ∙ ap (content_at cs) c.root.ensures.is)

pub returns-in-Leaf : goal.returns-in-Leaf
returns-in-Leaf g c =
    let cs = cells_of (take c.args.self.now.extent.used c.args.self.now.cells.now) in
    λ p e h. head_leaf g.L.PartialEq.eq (λ j. length cs + j) c.in-Leaf.field-0 _ p
    (c.in-Leaf.ensures.is ∙ ap (content_at cs) c.root.ensures.is) h

pub returns-then-symbol-node : goal.returns-then-symbol-node
returns-then-symbol-node g c =
    let cs = cells_of (take c.args.self.now.extent.used c.args.self.now.cells.now) in
    let n = c.in-Some-Node.node in
    let o = slice_get (g.B.Book.entries c.args.book.now) c.args.entry in
    λ p e h. head_same g.L.PartialEq.eq (λ j. length cs + j) c.in-Node.symbol n.symbol c.in-Node.count
    n.args.len c.in-Node.arguments (listed n.args) _ p
    (c.in-Node.ensures.is ∙ ap (content_at cs) c.root.ensures.is)
    (ap part_of (sym c.in-Some-Node.field-0-is) ∙ some_same (c.in-Some-Node.ensures ∙ (cell_is o c.args.head ∙ e)))
    c.in-Node.ensures.counted (length_listed n.args.len n.args.cells) c.if-symbol-node.true

pub returns-else-symbol-node : goal.returns-else-symbol-node
returns-else-symbol-node g c =
    let cs = cells_of (take c.args.self.now.extent.used c.args.self.now.cells.now) in
    let n = c.in-Some-Node.node in
    let o = slice_get (g.B.Book.entries c.args.book.now) c.args.entry in
    λ p e h. head_other g.L.PartialEq.eq (λ j. length cs + j) c.in-Node.symbol n.symbol c.in-Node.count
    n.args.len c.in-Node.arguments (listed n.args) _ p
    (c.in-Node.ensures.is ∙ ap (content_at cs) c.root.ensures.is)
    (ap part_of (sym c.in-Some-Node.field-0-is) ∙ some_same (c.in-Some-Node.ensures ∙ (cell_is o c.args.head ∙ e)))
    c.in-Node.ensures.counted (length_listed n.args.len n.args.cells) c.if-symbol-node.false
