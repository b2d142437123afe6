use Rattle.rule_laws.proofs.ParadoxesHold.{AnnIsElectedWithoutDee-holds, BenIsElectedWithDee-holds}
use Rattle.rule_laws.proofs.laws.clone_independence_fails.Goals as goal

pub returns-clause-without_clone : goal.returns-clause-without_clone
returns-clause-without_clone c = AnnIsElectedWithoutDee-holds

pub returns-clause-with_clone : goal.returns-clause-with_clone
returns-clause-with_clone c = BenIsElectedWithDee-holds
