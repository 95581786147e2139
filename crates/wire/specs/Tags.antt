-- The numbers that stand for tags. Assumes nothing.
use Rattle.std.specs.Prelude.{ℕ}
use Rattle.wire.specs.declared.tag.Tag.{Tag}
use Rattle.wire.specs.declared.tag.Tag.TheVariants as tags

-- the number of a tag
abbrev pub tag_number : Tag → ℕ
tag_number tags.Clause = 1
tag_number tags.CoFact = 2
tag_number tags.Variable = 16
tag_number tags.Leaf = 17
tag_number tags.Node = 18
tag_number tags.Goals = 19
