use Rattle.day_reader.proofs.DayLaws.{accepts_days}
use Rattle.day_reader.proofs.laws.accepts_days.Goals as goal

pub returns : goal.returns
returns c = accepts_days c.shared_parts.ensures
