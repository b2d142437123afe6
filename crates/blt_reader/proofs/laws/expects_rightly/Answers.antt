use Rattle.blt_reader.proofs.BltLaws.{expects_rightly}
use Rattle.blt_reader.proofs.laws.expects_rightly.Goals as goal

pub returns : goal.returns
returns c = expects_rightly
