use Rattle.rule_laws.proofs.Earlier.{count-earlier}
use Rattle.rule_laws.proofs.laws.later_preferences_change_nothing_earlier.Goals as goal

pub returns : goal.returns
returns c = count-earlier
