use Rattle.std.proofs.Common.{refl, rules, ◌∙◌}
use Rattle.wire.proofs.Every.{every_below}
use Rattle.wire.proofs.read_field.read_node.Goals as goal

pub returns-then-not-all_below : goal.returns-then-not-all_below
returns-then-not-all_below c = (
  every_below c.args.count c.args.args.now c.all_below.result c.all_below.ensures ∙ c.if-not-all_below.true,
  c.inside.ensures,
)

pub returns : goal.returns
returns c = (
  refl,
  search rules,
  every_below c.args.count c.args.args.now c.all_below.result c.all_below.ensures ∙ c.if-not-all_below.false,
)
