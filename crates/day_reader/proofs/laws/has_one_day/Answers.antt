use Rattle.day_reader.proofs.DayLaws.{has_one_day}
use Rattle.day_reader.proofs.laws.has_one_day.Goals as goal

pub returns : goal.returns
returns c = has_one_day c.shared_parts.ensures
