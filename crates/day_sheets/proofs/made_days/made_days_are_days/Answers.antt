use Rattle.day_sheets.proofs.MadeDays.{is_made_day}
use Rattle.day_sheets.proofs.made_days.made_days_are_days.Goals as goal

pub returns : goal.returns
returns c = is_made_day
