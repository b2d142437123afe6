use Rattle.std.proofs.Common.{map}
use Rattle.std.specs.Slice.Iter.{iter_rest, iter_mut_rest}
use Rattle.std.specs.Iterator.Adapters.{zip_first, zip_second}
use Rattle.lane_sheet.specs.Due.{dues_of}
use Rattle.lane_sheet.proofs.BegunCounts.{IsBeginning}
use Rattle.lane_sheet.proofs.begun_counts.begin_counts.Given as goal

abbrev pub invariant-loop-roll : goal.invariant-loop-roll
invariant-loop-roll g l =
    (goal.iterator-loop-roll g).can_next l.roll-iterator
    × (goal.iterator-loop-roll g).is_finite l.roll-iterator
    × IsBeginning g.D.Spread.ballots g.D.Spread.candidates g.D.Spread.can_spread g.row.P l.fn.omega l.fn.lots
    (dues_of l.fn.omega l.fn.lots l.fn.rolls (map g.D.Spread.ballots l.fn.spreads)) l.counts.items
    (iter_rest (zip_first l.roll-iterator)) (iter_mut_rest (zip_second l.roll-iterator))
