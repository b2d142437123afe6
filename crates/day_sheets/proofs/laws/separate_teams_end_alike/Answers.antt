use Rattle.day_sheets.proofs.Separate.{end_alike}
use Rattle.day_sheets.proofs.laws.separate_teams_end_alike.Goals as goal

pub returns : goal.returns
returns c = end_alike
