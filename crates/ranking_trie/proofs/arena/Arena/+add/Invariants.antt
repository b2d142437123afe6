use Rattle.std.proofs.Common.{◌-◌, length}
use Rattle.ranking_trie.proofs.arena.Arena.+add.Given as goal

abbrev pub decreases-add : goal.decreases-add
decreases-add g l = length l.ranks.now - l.at
