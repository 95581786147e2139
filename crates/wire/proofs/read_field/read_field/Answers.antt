use Rattle.std.proofs.Common.{Some, None, sym, refl, ◌∙◌}
use Rattle.std.proofs.lemmas.Result.{err_from_is_err_and}
use Rattle.wire.proofs.FaultsFound.{missing_is}
use Rattle.wire.proofs.Items.{a_goals, a_leaf, a_node, a_variable, bad_goals, bad_node, fault_item, goals_spot, leaf_spot, no_room_leaf, no_room_node, no_room_variable, node_spot, variable_spot}
use Rattle.wire.proofs.read_field.read_field.Goals as goal

pub returns-in_err-field : goal.returns-in_err-field
returns-in_err-field g c ps m =
    let h = c.in_err-field.ensures in
    fault_item _ c.from_residual.result c.args.spot c.args.spot _ _
    (err_from_is_err_and c.from_residual.result c.from_residual.ensures.1) h.0 refl (h.1 ps)

pub returns-in_err-room-in-Variable : goal.returns-in_err-room-in-Variable
returns-in_err-room-in-Variable g c ps m =
    let s = c.args.split.now in
    let h = c.in_err-room-in-Variable.ensures in
    fault_item _ _ c.args.spot c.in-Variable.spot _ _
    (err_from_is_err_and c.from_residual-in_err-room-in-Variable.result c.from_residual-in_err-room-in-Variable.ensures.1) h.1
    (variable_spot g.L.WireLeaf.wide g.L.WireLeaf.reading ps _ m _ s.tag s.contents.now _ c.in_ok-field.ensures c.in-Variable.spot c.in-Variable.is)
    (no_room_variable g.L.WireLeaf.wide g.L.WireLeaf.reading ps _ m _ s.tag s.contents.now _ c.in_ok-field.ensures c.in-Variable.spot c.in-Variable.is h.0)

pub returns-in_ok-room-in-Variable : goal.returns-in_ok-room-in-Variable
returns-in_ok-room-in-Variable g c ps m =
    let s = c.args.split.now in
    a_variable g.L.WireLeaf.wide g.L.WireLeaf.reading ps _ m _ s.tag s.contents.now _ c.in_ok-field.ensures c.in-Variable.spot c.in-Variable.is c.in_ok-room-in-Variable.ensures

pub returns-in_err-room-in-Leaf : goal.returns-in_err-room-in-Leaf
returns-in_err-room-in-Leaf g c ps m =
    let s = c.args.split.now in
    let h = c.in_err-room-in-Leaf.ensures in
    fault_item _ _ c.args.spot c.in-Leaf.spot _ _
    (err_from_is_err_and c.from_residual-in_err-room-in-Leaf.result c.from_residual-in_err-room-in-Leaf.ensures.1) h.1
    (leaf_spot g.L.WireLeaf.wide g.L.WireLeaf.reading ps _ m _ s.tag s.contents.now _ c.in_ok-field.ensures c.in-Leaf.spot c.in-Leaf.bytes c.in-Leaf.is)
    (no_room_leaf g.L.WireLeaf.wide g.L.WireLeaf.reading ps _ m _ s.tag s.contents.now _ c.in_ok-field.ensures c.in-Leaf.spot c.in-Leaf.bytes c.in-Leaf.is h.0)

pub returns-in_err-value-in-Leaf : goal.returns-in_err-value-in-Leaf
returns-in_err-value-in-Leaf g c ps m =
    let s = c.args.split.now in
    let h = c.in_err-value-in-Leaf.ensures in
    fault_item _ _ c.args.spot c.in-Leaf.spot _ _
    (err_from_is_err_and c.from_residual-in_err-value-in-Leaf.result c.from_residual-in_err-value-in-Leaf.ensures.1) (missing_is c.read.result c.inside.result _ h.ok_part h.value ∙ c.inside.ensures)
    (leaf_spot g.L.WireLeaf.wide g.L.WireLeaf.reading ps _ m _ s.tag s.contents.now _ c.in_ok-field.ensures c.in-Leaf.spot c.in-Leaf.bytes c.in-Leaf.is)
    (a_leaf g.L.WireLeaf.wide g.L.WireLeaf.reading ps _ m _ s.tag s.contents.now _ c.in_ok-field.ensures c.in-Leaf.spot c.in-Leaf.bytes c.in-Leaf.is None c.in_ok-room-in-Leaf.ensures (sym c.read.ensures ∙ h.ok_part))

pub returns-in_ok-value-in-Leaf : goal.returns-in_ok-value-in-Leaf
returns-in_ok-value-in-Leaf g c ps m =
    let s = c.args.split.now in
    a_leaf g.L.WireLeaf.wide g.L.WireLeaf.reading ps _ m _ s.tag s.contents.now _ c.in_ok-field.ensures c.in-Leaf.spot c.in-Leaf.bytes c.in-Leaf.is (Some c.in_ok-value-in-Leaf.value)
    c.in_ok-room-in-Leaf.ensures (sym c.read.ensures ∙ c.in_ok-value-in-Leaf.ensures.ok_part)

pub returns-in_err-room-in-Node : goal.returns-in_err-room-in-Node
returns-in_err-room-in-Node g c ps m =
    let s = c.args.split.now in
    let h = c.in_err-room-in-Node.ensures in
    fault_item _ _ c.args.spot c.in-Node.spot _ _
    (err_from_is_err_and c.from_residual-in_err-room-in-Node.result c.from_residual-in_err-room-in-Node.ensures.1) h.1
    (node_spot g.L.WireLeaf.wide g.L.WireLeaf.reading ps _ m _ s.tag s.contents.now _ c.in_ok-field.ensures c.in-Node.spot c.in-Node.symbol c.in-Node.args c.in-Node.is)
    (no_room_node g.L.WireLeaf.wide g.L.WireLeaf.reading ps _ m _ s.tag s.contents.now _ c.in_ok-field.ensures c.in-Node.spot c.in-Node.symbol c.in-Node.args c.in-Node.is h.0)

pub returns-in_err-node-in-Node : goal.returns-in_err-node-in-Node
returns-in_err-node-in-Node g c ps m =
    let s = c.args.split.now in
    let h = c.in_err-node-in-Node.ensures in
    fault_item _ _ c.args.spot c.in-Node.spot _ _
    (err_from_is_err_and c.from_residual-in_err-node-in-Node.result c.from_residual-in_err-node-in-Node.ensures.1) h.1
    (node_spot g.L.WireLeaf.wide g.L.WireLeaf.reading ps _ m _ s.tag s.contents.now _ c.in_ok-field.ensures c.in-Node.spot c.in-Node.symbol c.in-Node.args c.in-Node.is)
    (bad_node g.L.WireLeaf.wide g.L.WireLeaf.reading ps _ m _ s.tag s.contents.now _ c.in_ok-field.ensures c.in-Node.spot c.in-Node.symbol c.in-Node.args c.in-Node.is c.in_ok-room-in-Node.ensures h.0)

pub returns-in_ok-node-in-Node : goal.returns-in_ok-node-in-Node
returns-in_ok-node-in-Node g c ps m =
    let s = c.args.split.now in
    let h = c.in_ok-node-in-Node.ensures in
    a_node g.L.WireLeaf.wide g.L.WireLeaf.reading ps _ m _ s.tag s.contents.now _ c.in_ok-field.ensures c.in-Node.spot c.in-Node.symbol c.in-Node.args c.in-Node.is
    c.in_ok-node-in-Node.node c.in_ok-room-in-Node.ensures h.0 h.1 h.2

pub returns-in_err-goals-in-Goals : goal.returns-in_err-goals-in-Goals
returns-in_err-goals-in-Goals g c ps m =
    let s = c.args.split.now in
    let h = c.in_err-goals-in-Goals.ensures in
    fault_item _ _ c.args.spot c.in-Goals.spot _ _
    (err_from_is_err_and c.from_residual-in_err-goals-in-Goals.result c.from_residual-in_err-goals-in-Goals.ensures.1) h.1
    (goals_spot g.L.WireLeaf.wide g.L.WireLeaf.reading ps _ m _ s.tag s.contents.now _ c.in_ok-field.ensures c.in-Goals.spot c.in-Goals.head c.in-Goals.body c.in-Goals.is)
    (bad_goals g.L.WireLeaf.wide g.L.WireLeaf.reading ps _ m _ s.tag s.contents.now _ c.in_ok-field.ensures c.in-Goals.spot c.in-Goals.head c.in-Goals.body c.in-Goals.is h.0)

pub returns-in_ok-goals-in-Goals : goal.returns-in_ok-goals-in-Goals
returns-in_ok-goals-in-Goals g c ps m =
    let s = c.args.split.now in
    let h = c.in_ok-goals-in-Goals.ensures in
    a_goals g.L.WireLeaf.wide g.L.WireLeaf.reading ps _ m _ s.tag s.contents.now _ c.in_ok-field.ensures c.in-Goals.spot c.in-Goals.head c.in-Goals.body c.in-Goals.is
    _ _ h.0 h.1 h.2
