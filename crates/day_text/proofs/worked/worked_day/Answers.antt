use Rattle.day_text.proofs.WorkedDays.{worked_text, worked_end}
use Rattle.day_text.proofs.worked.worked_day.Goals as goal

pub returns : goal.returns
returns c = record { text = worked_text; end = worked_end }
