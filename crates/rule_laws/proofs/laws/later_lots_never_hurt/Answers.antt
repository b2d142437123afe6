use Rattle.rule_laws.proofs.LaterLots.{count-moved}
use Rattle.rule_laws.proofs.MovedLots.{election-moved}
use Rattle.rule_laws.proofs.laws.later_lots_never_hurt.Goals as goal

pub returns-clause-same : goal.returns-clause-same
returns-clause-same c = count-moved

pub returns-clause-election : goal.returns-clause-election
returns-clause-election c = election-moved
