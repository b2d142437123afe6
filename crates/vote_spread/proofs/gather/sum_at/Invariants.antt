use Rattle.std.proofs.Common.{◌≡◌, slice_index, sum_by, take}
use Rattle.vote_spread.specs.LaneSeen.{LaneSeen}
use Rattle.vote_spread.proofs.gather.sum_at.Given as goal

abbrev pub invariant-loop-lane : goal.invariant-loop-lane
invariant-loop-lane l = l.sum ≡ sum_by (λ (lane : LaneSeen). slice_index lane.tally l.p) (take l.lane-index l.lanes)
