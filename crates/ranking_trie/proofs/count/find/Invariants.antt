use Rattle.std.proofs.Common.{◌≡◌, ℕ, List, ◌∷◌}
use Rattle.ranking_trie.specs.Bag.{bag, node_count, IsRising}
use Rattle.ranking_trie.specs.BallotBag.{count_of}
use Rattle.ranking_trie.specs.Siblings.{forest_of}
use Rattle.ranking_trie.proofs.count.find.Given as goal

abbrev pub invariant-loop-node : goal.invariant-loop-node
invariant-loop-node l = record {
  same : (s : List ℕ) → count_of (l.c ∷ s) (bag (forest_of l.rest)) ≡ count_of (l.c ∷ s) (bag (forest_of l.fn.forest));
  rising : (low : ℕ) × (IsRising low (forest_of l.rest));
}

abbrev pub decreases-loop-node : goal.decreases-loop-node
decreases-loop-node l = node_count (forest_of l.rest)
