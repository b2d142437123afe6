use Rattle.blt_normal.proofs.FileLemmas as files
use Rattle.blt_normal.proofs.laws.texts_stay.Goals as goal

pub returns : goal.returns
returns c = files.texts_stay c.texts_are_read.ensures
