use Rattle.rule_laws.proofs.ParadoxesHold.{AnnIsElectedByNine-holds, CidIsElectedByEleven-holds}
use Rattle.rule_laws.proofs.laws.participation_fails.Goals as goal

pub returns-clause-by_nine : goal.returns-clause-by_nine
returns-clause-by_nine c = AnnIsElectedByNine-holds

pub returns-clause-by_eleven : goal.returns-clause-by_eleven
returns-clause-by_eleven c = CidIsElectedByEleven-holds
