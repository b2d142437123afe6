use Rattle.day_reader.proofs.DayLaws.{refuses_all_else}
use Rattle.day_reader.proofs.laws.refuses_all_else.Goals as goal

pub returns : goal.returns
returns c = refuses_all_else c.shared_parts.ensures
