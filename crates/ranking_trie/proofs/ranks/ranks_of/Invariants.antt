use Rattle.std.proofs.Common.{◌≡◌, take}
use Rattle.ranking_trie.specs.Lines.{rank_count}
use Rattle.ranking_trie.proofs.ranks.ranks_of.Given as goal

abbrev pub invariant-loop-line : goal.invariant-loop-line
invariant-loop-line l = l.ranks ≡ rank_count (take l.line-index l.line-items)
