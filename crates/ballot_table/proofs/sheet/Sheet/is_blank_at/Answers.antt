use Rattle.ballot_table.proofs.ShortTexts.{zero_is_empty}
use Rattle.ballot_table.proofs.sheet.Sheet.is_blank_at.Goals as goal

pub returns-in-Some : goal.returns-in-Some
returns-in-Some c = zero_is_empty c.in-Some.number _ c.in-Some.ensures.number
