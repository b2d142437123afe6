use Rattle.std.specs.Vec.Iter.{into_iter_items}
use Rattle.lane_sheet.proofs.BegunSpreads.{AreBegunBy}
use Rattle.lane_sheet.proofs.in_lanes.write_in_lanes.Given as goal

abbrev pub invariant-loop-lanes : goal.invariant-loop-lanes
invariant-loop-lanes g l = AreBegunBy l.candidates l.run l.fn.plans.items l.spreads.items (into_iter_items l.lanes-iterator)
