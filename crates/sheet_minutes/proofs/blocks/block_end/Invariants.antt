use Rattle.std.proofs.Common.{◌≡◌, ◌-◌, ◌<◌, ◌≤◌, length}
use Rattle.sheet_minutes.specs.Rounds.{rounds_in}
use Rattle.sheet_minutes.proofs.blocks.block_end.Given as goal

abbrev pub invariant-loop-i : goal.invariant-loop-i
invariant-loop-i g l = record {
  from : l.first ≤ l.i;
  counted : l.count ≡ length (rounds_in l.rows l.first (l.i - l.first));
  open_yet : l.count < l.size;
}
