use Rattle.day_sheets.proofs.MadeSummaries.{one_of_each}
use Rattle.day_sheets.proofs.laws.made_days_have_one_summary.Goals as goal

pub returns : goal.returns
returns c = one_of_each
