use Rattle.sheet_page.proofs.RisingRounds.{rising_rounds}
use Rattle.sheet_page.proofs.laws.rising_rounds_are_whole.Goals as goal

pub returns : goal.returns
returns c = rising_rounds
