use Rattle.day_reader.proofs.DayLaws.{follows_open_lists}
use Rattle.day_reader.proofs.laws.follows_open_lists.Goals as goal

pub returns : goal.returns
returns c = follows_open_lists c.shared_parts.ensures
