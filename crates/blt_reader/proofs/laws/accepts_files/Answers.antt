use Rattle.blt_reader.proofs.BltLaws.{accepts_files}
use Rattle.blt_reader.proofs.laws.accepts_files.Goals as goal

pub returns : goal.returns
returns c = accepts_files
