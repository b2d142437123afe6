use Rattle.rule_laws.proofs.NothingLost.{count-nothing_vanishes}
use Rattle.rule_laws.proofs.laws.no_vote_vanishes.Goals as goal

pub returns : goal.returns
returns c = count-nothing_vanishes
