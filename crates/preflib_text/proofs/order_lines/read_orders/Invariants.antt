use Rattle.std.proofs.Common.{◌≡◌, ◌+◌, length}
use Rattle.preflib_text.specs.Counting.{IsCounted, IsReadTo}
use Rattle.preflib_text.proofs.order_lines.read_orders.Given as goal

-- the lines so far are orders, whose ballots are counted
abbrev pub invariant-loop-line : goal.invariant-loop-line
invariant-loop-line l = record {
  candidates : l.order.candidates ≡ l.candidates;
  same : l.counted.ballots.candidates ≡ l.candidates;
  sound : IsCounted l.counted;
  read : IsReadTo l.equal l.fn.lines.rest l.counted l.lines.rest;
  rows : l.lines.row + length l.lines.rest ≡ l.fn.lines.row + length l.fn.lines.rest;
  bytes : l.lines.bytes ≡ l.fn.lines.bytes;
}

abbrev pub decreases-loop-line : goal.decreases-loop-line
decreases-loop-line l = length l.lines.rest
