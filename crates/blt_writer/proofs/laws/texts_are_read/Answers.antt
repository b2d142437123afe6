use Rattle.blt_writer.proofs.WrittenFiles as files
use Rattle.blt_writer.proofs.laws.texts_are_read.Goals as goal

pub returns : goal.returns
returns c = files.texts_are_read
