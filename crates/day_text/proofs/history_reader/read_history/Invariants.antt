use Rattle.std.proofs.Common.{length}
use Rattle.day_text.proofs.Histories.{AreRead}
use Rattle.day_text.proofs.history_reader.read_history.Given as goal

abbrev pub invariant-lines : goal.invariant-lines
invariant-lines l = AreRead l.text l.history.items l.rest

abbrev pub decreases-lines : goal.decreases-lines
decreases-lines l = length l.rest
