use Rattle.std.proofs.Common.{◌-◌, length}
use Rattle.ranking_trie.proofs.arena.Arena.+remove.Given as goal

abbrev pub decreases-remove : goal.decreases-remove
decreases-remove g l = length l.ranks.now - l.at
