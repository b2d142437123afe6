use Rattle.day_reader.proofs.DayLaws.{refuses_by_the_rule}
use Rattle.day_reader.proofs.laws.refuses_by_the_rule.Goals as goal

pub returns : goal.returns
returns c = refuses_by_the_rule c.shared_parts.ensures
