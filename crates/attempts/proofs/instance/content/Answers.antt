use Rattle.std.proofs.Common.{◌+◌, ◌≤◌, sym, ap, ◌∙◌, subst, arith}
use Rattle.searching.specs.Trying.{content_of}
use Rattle.book.specs.Answers.{part_of}
use Rattle.book.proofs.Listed.{length_listed}
use Rattle.attempts.specs.Attempts.{FewArguments}
use Rattle.attempts.proofs.Instances.{written_node}
use Rattle.attempts.proofs.instance.content.Goals as goal

pub returns-in-Variable : goal.returns-in-Variable
unfolding content_of
returns-in-Variable g c = record {
  is = ap (λ x. content_of (λ j. c.args.base + j) (part_of x)) (sym c.in-Variable.is);
  counted = tt;
}

pub returns-in-Leaf : goal.returns-in-Leaf
unfolding content_of
returns-in-Leaf g c = record {
  is = ap (λ x. content_of (λ j. c.args.base + j) (part_of x)) (sym c.in-Leaf.is);
  counted = tt;
}

pub returns-in-Node : goal.returns-in-Node
returns-in-Node g c =
    let n = c.in-Node.node in
    let few : n.args.len ≤ 4 =
    omega (arith, subst FewArguments c.in-Node.is c.requires.few, length_listed n.args.len n.args.cells) in
    record {
      is = written_node c.args.base n.symbol n.args.len n.args.cells c.from.result c.from-in-Node.result
          c.from-in-Node-2.result c.from-in-Node-3.result few c.from.ensures c.from-in-Node.ensures
          c.from-in-Node-2.ensures c.from-in-Node-3.ensures
          ∙ ap (λ x. content_of (λ j. c.args.base + j) (part_of x)) (sym c.in-Node.is);
      counted = few;
    }
