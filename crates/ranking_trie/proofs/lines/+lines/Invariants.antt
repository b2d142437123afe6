use Rattle.std.proofs.Common.{◌≡◌, ◌+◌, ◌*◌, ◌≤◌, ◌++◌, length, map}
use Rattle.std.specs.List.{All}
use Rattle.plain_ballots.specs.Ballots.{ballot_count}
use Rattle.plain_ballots.specs.Ranking.{IsRanking}
use Rattle.ranking_trie.specs.Bag.{bag, node_count}
use Rattle.ranking_trie.specs.Lines.{behind, lines_of}
use Rattle.ranking_trie.specs.Siblings.{forest_of}
use Rattle.ranking_trie.proofs.lines.+lines.Given as goal

abbrev pub invariant-push_lines-loop-node : goal.invariant-push_lines-loop-node
invariant-push_lines-loop-node l = record {
  ranks : l.ranks.items ≡ l.fn.ranks.items;
  candidates : l.ballots.candidates ≡ l.fn.ballots.candidates;
  lines : l.ballots.lines ++ map (behind l.fn.ranks.items) (lines_of (forest_of l.rest))
      ≡ l.fn.ballots.lines ++ map (behind l.fn.ranks.items) (lines_of (forest_of l.fn.forest));
  rankings : All (λ r. IsRanking l.fn.ballots.candidates (l.fn.ranks.items ++ r)) (bag (forest_of l.rest));
  few : ballot_count l.ballots.lines + length (bag (forest_of l.rest)) ≤ 999999999;
  nodes : node_count (forest_of l.rest) ≤ node_count (forest_of l.fn.forest);
}

abbrev pub decreases-push_lines-loop-node : goal.decreases-push_lines-loop-node
decreases-push_lines-loop-node l = node_count (forest_of l.rest)

abbrev pub decreases-push_lines : goal.decreases-push_lines
decreases-push_lines l = 2 * node_count (forest_of l.forest)

abbrev pub decreases-push_node : goal.decreases-push_node
decreases-push_node l = 2 * node_count (forest_of l.inner) + 1
