use Rattle.std.proofs.Common.{◌≡◌, ◌++◌, map, take, drop, sum_by}
use Rattle.vote_spread.specs.Merged.{first_ballots}
use Rattle.vote_spread.proofs.merge.open_all.Given as goal

abbrev pub invariant-loop-node : goal.invariant-loop-node
invariant-loop-node l = record {
  below : l.nodes ≡ map (λ rows. drop 1 rows) (take l.node-index l.fn.nodes) ++ drop l.node-index l.fn.nodes;
  counted : l.ballots ≡ sum_by first_ballots (take l.node-index l.fn.nodes);
}
