use Rattle.rule_laws.proofs.ParadoxesHold.{CidIsElectedFromSecond-holds, CidIsDefeatedFromFirst-holds}
use Rattle.rule_laws.proofs.laws.monotonicity_fails.Goals as goal

pub returns-clause-from_second : goal.returns-clause-from_second
returns-clause-from_second c = CidIsElectedFromSecond-holds

pub returns-clause-from_first : goal.returns-clause-from_first
returns-clause-from_first c = CidIsDefeatedFromFirst-holds
