use Rattle.blt_reader.proofs.BltLaws.{follows_open_lists}
use Rattle.blt_reader.proofs.laws.follows_open_lists.Goals as goal

pub returns : goal.returns
returns c = follows_open_lists
