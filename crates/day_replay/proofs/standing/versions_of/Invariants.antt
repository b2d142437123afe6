use Rattle.day_replay.proofs.Freezing.{AreSoFar}
use Rattle.day_replay.proofs.standing.versions_of.Given as goal

abbrev pub invariant-loop-place : goal.invariant-loop-place
invariant-loop-place g l = AreSoFar l.fn.candidates l.fn.history l.place l.versions.items
