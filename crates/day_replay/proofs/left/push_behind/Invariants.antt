use Rattle.std.proofs.Common.{◌≡◌, ◌++◌, length}
use Rattle.std.specs.Prelude.{reverse}
use Rattle.day_replay.proofs.left.push_behind.Given as goal

abbrev pub invariant-calls : goal.invariant-calls
invariant-calls l = l.calls ++ reverse l.list ≡ l.fn.calls ++ reverse l.fn.list

abbrev pub decreases-calls : goal.decreases-calls
decreases-calls l = length l.calls
