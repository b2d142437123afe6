use Rattle.std.proofs.Common.{◌≡◌, ◌++◌, [], drop, replicate}
use Rattle.ranking_trie.specs.Bag.{bag, IsRising}
use Rattle.ranking_trie.specs.BallotBag.{count_of}
use Rattle.ranking_trie.specs.Siblings.{forest_of}
use Rattle.ranking_trie.proofs.count.count.Given as goal

abbrev pub invariant-loop-rank : goal.invariant-loop-rank
invariant-loop-rank l = record {
  rising : IsRising 0 (forest_of l.forest);
  same : count_of (drop l.rank-index l.ranks) (replicate l.ends [] ++ bag (forest_of l.forest))
      ≡ count_of l.ranks (replicate l.fn.ends [] ++ bag (forest_of l.fn.forest));
}
