use Rattle.std.proofs.Common.{◌-◌, List, subst}
use Rattle.ranking_trie.specs.declared.node.Node.{Node}
use Rattle.ranking_trie.specs.Arena.{forest_in, IsPassed}
use Rattle.ranking_trie.specs.Bag.{IsRising}
use Rattle.ranking_trie.specs.Places.{forest_at}
use Rattle.ranking_trie.proofs.ChangeLemmas.{is_there}
use Rattle.ranking_trie.proofs.HangLemmas.{node_found}
use Rattle.ranking_trie.proofs.JoinLemmas.{rising_front}
use Rattle.ranking_trie.proofs.arena.Arena.held_place.Goals as goal

pub returns : goal.returns
returns c =
    let a = c.args.self.now in
    let first = c.args.first in
    let p = c.find_place in
    let before = p.result.0 in
    let at = p.result.1 in
    let passed = subst (λ (l : List Node). IsPassed l first c.args.c before at) c.nodes.ensures p.ensures.parted in
    let rising = subst (λ (l : List Node). IsRising (c.args.c - 1) (forest_at l at)) c.nodes.ensures p.ensures.rising in
    let front = rising_front 0 passed.passed (forest_in a at) (subst (IsRising 0) passed.is c.requires.rising) in
    let there =
    is_there a first c.args.c before at c.requires.held.0 passed.passed passed.rest passed.is front passed.under
    rising c.requires.held.1 in
    node_found a first c.args.c before at c.requires.apart c.requires.rising passed rising there.0 there.1
