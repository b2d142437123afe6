use Rattle.rule_laws.proofs.KeepRises.{count-keep}
use Rattle.rule_laws.proofs.laws.keep_values_rise_by_a_unit.Goals as goal

pub returns : goal.returns
returns c = count-keep
