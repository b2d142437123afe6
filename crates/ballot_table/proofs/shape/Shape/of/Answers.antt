use Rattle.std.proofs.Common.{arith}
use Rattle.ballot_table.proofs.ShapeLemmas.{few_unlabelled}
use Rattle.ballot_table.proofs.shape.Shape.of.Goals as goal

pub returns-clause-shape : goal.returns-clause-shape
returns-clause-shape c = record {
  others = c.others.ensures;
  few =
      let few = few_unlabelled c.args.asked.now c.args.texts.now in
      let is = c.others.ensures in
      let short = c.requires in
      omega (arith, few, is, short);
  say_ranks = c.say_ranks.ensures;
  may_be_ranks = c.may_be_ranks.ensures;
}
