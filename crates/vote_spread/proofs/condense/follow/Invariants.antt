use Rattle.std.proofs.Common.{◌≡◌, ◌+◌, ◌≤◌, drop, vec_len, vec_capacity}
use Rattle.vote_spread.specs.Rows.{seen}
use Rattle.vote_spread.proofs.FollowLemmas.{Missing}
use Rattle.vote_spread.proofs.condense.follow.Given as goal

-- what the candidates after are still to get is what is missing
abbrev pub invariant-loop-rank : goal.invariant-loop-rank
invariant-loop-rank l = record {
  capacity : vec_capacity l.rows ≡ vec_capacity l.fn.rows;
  few : vec_len l.rows ≤ vec_len l.fn.rows + l.rank-index;
  shallow : l.depth ≤ l.at + l.rank-index;
  missing : Missing l.classes l.ballots l.at l.depth l.tail (drop l.rank-index l.tail) (seen l.fn.rows.items)
      (seen l.rows.items);
}
