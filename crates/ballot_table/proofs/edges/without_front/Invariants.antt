use Rattle.std.proofs.Common.{◌≡◌, ◌+◌, ◌-◌, ◌≤◌, length, drop}
use Rattle.std.specs.List.{prefix_len}
use Rattle.ballot_table.specs.Texts.{is_edge}
use Rattle.ballot_table.proofs.edges.without_front.Given as goal

-- all bytes so far are at the edge
abbrev pub invariant-loop-at : goal.invariant-loop-at
invariant-loop-at l = record {
  inside : l.at ≤ length l.bytes;
  before : prefix_len is_edge l.bytes ≡ l.at + prefix_len is_edge (drop l.at l.bytes);
}

abbrev pub decreases-loop-at : goal.decreases-loop-at
decreases-loop-at l = length l.bytes - l.at
