use Rattle.std.proofs.Common.{arith, ap, sym, ◌∙◌}
use Rattle.ranking_trie.specs.Forest.{Grow}
use Rattle.ranking_trie.specs.Places.{node_at, forest_at}
use Rattle.ranking_trie.specs.Siblings.{SiblingsSeen, forest_of}
use Rattle.ranking_trie.proofs.PlaceLemmas.{opened}
use Rattle.ranking_trie.proofs.siblings.Siblings.first.Goals as goal

pub new-requires : goal.new-requires
new-requires c = (opened c.self.inside.nodes.now c.self.inside.first c.self.invariant (omega arith)).inner

pub new-requires-2 : goal.new-requires-2
new-requires-2 c = (opened c.self.inside.nodes.now c.self.inside.first c.self.invariant (omega arith)).next

pub returns-clause-some : goal.returns-clause-some
returns-clause-some c =
    let nodes = c.self.inside.nodes.now in
    let p = c.self.inside.first in
    let node = node_at nodes p in (
      p,
      ap forest_of (sym c.self.view_is)
          ∙ ((opened nodes p c.self.invariant (omega arith)).is
          ∙ (ap (λ (s : SiblingsSeen). Grow node.candidate node.ends p (forest_of s) (forest_at nodes node.next)) (sym c.new.ensures)
          ∙ ap (λ (s : SiblingsSeen). Grow node.candidate node.ends p (forest_of c.new.result) (forest_of s)) (sym c.new-2.ensures))),
    )
