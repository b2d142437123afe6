use Rattle.std.proofs.Common.{◌≡◌, ◌+◌, ◌≤◌, length, take}
use Rattle.std.specs.List.{suffix_len}
use Rattle.ballot_table.specs.Texts.{is_edge}
use Rattle.ballot_table.proofs.edges.without_end.Given as goal

-- all bytes after are at the edge
abbrev pub invariant-loop-end : goal.invariant-loop-end
invariant-loop-end l = record {
  inside : l.end ≤ length l.bytes;
  behind : l.end + suffix_len is_edge l.bytes ≡ length l.bytes + suffix_len is_edge (take l.end l.bytes);
}

abbrev pub decreases-loop-end : goal.decreases-loop-end
decreases-loop-end l = l.end
