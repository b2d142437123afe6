use Rattle.day_reader.proofs.DayLaws.{expects_rightly}
use Rattle.day_reader.proofs.laws.expects_rightly.Goals as goal

pub returns : goal.returns
returns c = expects_rightly c.shared_parts.ensures
