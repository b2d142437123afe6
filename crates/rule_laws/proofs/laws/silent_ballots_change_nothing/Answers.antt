use Rattle.rule_laws.proofs.Heard.{count-first_votes, count-heard_coalition}
use Rattle.rule_laws.proofs.Silent.{count-silent}
use Rattle.rule_laws.proofs.laws.silent_ballots_change_nothing.Goals as goal

pub returns-clause-same : goal.returns-clause-same
returns-clause-same c = count-silent

pub returns-clause-total : goal.returns-clause-total
returns-clause-total c = count-first_votes

pub returns-clause-quotas : goal.returns-clause-quotas
returns-clause-quotas c = count-heard_coalition
