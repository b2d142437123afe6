use Rattle.blt_reader.proofs.BltLaws.{has_one_poll}
use Rattle.blt_reader.proofs.laws.has_one_poll.Goals as goal

pub returns : goal.returns
returns c = has_one_poll
