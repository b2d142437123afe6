use Rattle.std.proofs.Common.{◌≡◌, ◌+◌, ◌++◌, take, vec_len, vec_capacity}
use Rattle.packed_ballots.proofs.put.put_ranks.Given as goal

abbrev pub invariant-loop-rank : goal.invariant-loop-rank
invariant-loop-rank l = record {
  items : l.bytes.items ≡ l.initial.bytes.items ++ take l.rank-index l.ranks;
  len : vec_len l.bytes ≡ vec_len l.initial.bytes + l.rank-index;
  capacity : vec_capacity l.bytes ≡ vec_capacity l.initial.bytes;
}
