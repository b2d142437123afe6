use Rattle.std.proofs.Common.{take}
use Rattle.day_replay.specs.Places.{ArePlaces}
use Rattle.day_replay.proofs.standing.places_in.Given as goal

abbrev pub invariant-loop-place : goal.invariant-loop-place
invariant-loop-place l = ArePlaces (take l.place l.entries) l.places.items
