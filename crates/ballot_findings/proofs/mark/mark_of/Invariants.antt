use Rattle.std.proofs.Common.{◌-◌, ◌≤◌}
use Rattle.ballot_findings.specs.Places.{IsMark}
use Rattle.ballot_findings.proofs.mark.mark_of.Given as goal

abbrev pub invariant-loop-mark : goal.invariant-loop-mark
invariant-loop-mark l = record { is : IsMark l.text l.mark; before : l.mark.at ≤ l.stop }

abbrev pub decreases-loop-mark : goal.decreases-loop-mark
decreases-loop-mark l = l.stop - l.mark.at
