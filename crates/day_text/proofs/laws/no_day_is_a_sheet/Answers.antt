use Rattle.day_text.proofs.FormLaws.{no_sheet}
use Rattle.day_text.proofs.laws.no_day_is_a_sheet.Goals as goal

pub returns : goal.returns
returns c = no_sheet
