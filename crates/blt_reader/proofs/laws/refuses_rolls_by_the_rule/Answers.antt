use Rattle.blt_reader.proofs.BltLaws.{refuses_rolls_by_the_rule}
use Rattle.blt_reader.proofs.laws.refuses_rolls_by_the_rule.Goals as goal

pub returns : goal.returns
returns c = refuses_rolls_by_the_rule
