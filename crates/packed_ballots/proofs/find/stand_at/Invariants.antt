use Rattle.std.proofs.Common.{◌≡◌, take}
use Rattle.packed_ballots.proofs.find.stand_at.Given as goal

abbrev pub invariant-loop-i : goal.invariant-loop-i
invariant-loop-i l = take l.i l.own ≡ take l.i l.ranks
