use Rattle.std.proofs.Common.{ap}
use Rattle.tally_board.specs.Stories.{moves_of}
use Rattle.tally_board.proofs.Counts.{with_last}
use Rattle.tally_board.proofs.story.Story.last.Goals as goal

pub returns-in-Longer : goal.returns-in-Longer
returns-in-Longer c = with_last _ _ c.in-Longer.step (ap moves_of c.in-Longer.is)
