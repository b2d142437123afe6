use Rattle.rule_laws.proofs.Firsts.{count-firsts}
use Rattle.rule_laws.proofs.Plurality.{count-plurality}
use Rattle.rule_laws.proofs.laws.first_preferences_count.Goals as goal

pub returns-clause-hopeful : goal.returns-clause-hopeful
returns-clause-hopeful c = count-firsts

pub returns-clause-plurality : goal.returns-clause-plurality
returns-clause-plurality c = count-plurality
