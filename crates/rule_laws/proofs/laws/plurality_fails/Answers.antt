use Rattle.rule_laws.proofs.UnnamedAtSixPlaces.{UnnamedDeeIsElected-holds}
use Rattle.rule_laws.proofs.laws.plurality_fails.Goals as goal

pub returns : goal.returns
returns c = UnnamedDeeIsElected-holds
