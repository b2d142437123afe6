use Rattle.blt_reader.proofs.BltLaws.{accepts_rolls}
use Rattle.blt_reader.proofs.laws.accepts_rolls.Goals as goal

pub returns : goal.returns
returns c = accepts_rolls
