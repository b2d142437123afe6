use Rattle.day_text.proofs.Cuts.{utf8_numeral}
use Rattle.day_text.proofs.number.guess.Goals as goal

pub returns-in_default : goal.returns-in_default
returns-in_default c n is = absurd (c.in_default.ensures.cases.0 (utf8_numeral _ n is))
