use Rattle.std.proofs.Common.{◌≡◌, ℕ, ◌-◌, ◌≤◌}
use Rattle.ranking_trie.specs.Arena.{forest_in, IsApart}
use Rattle.ranking_trie.proofs.arena.Arena.reserve.Given as goal

abbrev pub invariant-loop-self : goal.invariant-loop-self
invariant-loop-self l = record {
  same : (first : ℕ) → IsApart l.initial.self first → IsApart l.self first;
  forest : (first : ℕ) → IsApart l.initial.self first → forest_in l.self first ≡ forest_in l.initial.self first;
  more : l.initial.self.spare ≤ l.self.spare;
}

abbrev pub decreases-loop-self : goal.decreases-loop-self
decreases-loop-self l = l.ranks - l.self.spare
