use Rattle.std.proofs.Common.{length}
use Rattle.frozen_plan.proofs.LastLines.{IsDealing}
use Rattle.frozen_plan.proofs.dealing.deal.Given as goal

abbrev pub invariant-loop-line : goal.invariant-loop-line
invariant-loop-line l =
    IsDealing l.fn.ballots.candidates l.fn.ballots.lines (length l.initial.shares) l.ballots l.shares l.turn

abbrev pub decreases-loop-line : goal.decreases-loop-line
decreases-loop-line l = length l.ballots.lines
