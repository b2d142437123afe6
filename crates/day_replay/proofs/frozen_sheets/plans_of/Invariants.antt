use Rattle.std.specs.Vec.Iter.{into_iter_items}
use Rattle.day_sheets.proofs.FrozenPlans.{AreTaken}
use Rattle.day_replay.proofs.frozen_sheets.plans_of.Given as goal

abbrev pub invariant-loop-version : goal.invariant-loop-version
invariant-loop-version l = AreTaken l.fn.candidates l.fn.frozen.items l.plans.items (into_iter_items l.version-iterator)
