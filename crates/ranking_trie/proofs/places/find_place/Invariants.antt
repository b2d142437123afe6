use Rattle.ranking_trie.specs.Arena.{IsPassed}
use Rattle.ranking_trie.specs.Bag.{node_count}
use Rattle.ranking_trie.specs.Places.{forest_at}
use Rattle.ranking_trie.proofs.places.find_place.Given as goal

abbrev pub invariant-loop-at : goal.invariant-loop-at
invariant-loop-at l = IsPassed l.nodes l.first l.c l.before l.at

abbrev pub decreases-loop-at : goal.decreases-loop-at
decreases-loop-at l = node_count (forest_at l.nodes l.at)
