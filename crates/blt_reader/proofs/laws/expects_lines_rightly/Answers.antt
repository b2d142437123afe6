use Rattle.blt_reader.proofs.BltLaws.{expects_lines_rightly}
use Rattle.blt_reader.proofs.laws.expects_lines_rightly.Goals as goal

pub returns : goal.returns
returns c = expects_lines_rightly
