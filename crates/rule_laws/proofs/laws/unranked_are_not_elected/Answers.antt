use Rattle.rule_laws.proofs.Mentions.{count-unranked}
use Rattle.rule_laws.proofs.laws.unranked_are_not_elected.Goals as goal

pub returns : goal.returns
returns c = count-unranked
