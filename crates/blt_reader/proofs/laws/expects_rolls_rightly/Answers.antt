use Rattle.blt_reader.proofs.BltLaws.{expects_rolls_rightly}
use Rattle.blt_reader.proofs.laws.expects_rolls_rightly.Goals as goal

pub returns : goal.returns
returns c = expects_rolls_rightly
