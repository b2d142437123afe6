use Rattle.std.proofs.Common.{◌-◌, List, subst}
use Rattle.ranking_trie.specs.declared.node.Node.{Node}
use Rattle.ranking_trie.specs.Arena.{IsPassed}
use Rattle.ranking_trie.specs.Bag.{IsRising}
use Rattle.ranking_trie.specs.Places.{forest_at}
use Rattle.ranking_trie.proofs.HangLemmas.{node_found, place_within}
use Rattle.ranking_trie.proofs.arena.Arena.seek.Goals as goal

pub is_of-requires : goal.is_of-requires
is_of-requires c =
    let p = c.find_place-at in
    let passed =
    subst (λ (l : List Node). IsPassed l c.args.first c.args.c p.result.0 p.result.1) c.nodes.ensures p.ensures.parted in
    place_within c.args.self.now.nodes.items p.result.1 passed.rest

pub returns-then-is_of : goal.returns-then-is_of
returns-then-is_of c = λ some.
    let p = c.find_place-at in
    let passed =
    subst (λ (l : List Node). IsPassed l c.args.first c.args.c p.result.0 p.result.1) c.nodes.ensures p.ensures.parted in
    let rising =
    subst (λ (l : List Node). IsRising (c.args.c - 1) (forest_at l p.result.1)) c.nodes.ensures p.ensures.rising in
    let own = c.is_of.ensures.same c.if-is_of.true in (
      p.result.0,
      node_found c.args.self.now c.args.first c.args.c p.result.0 p.result.1 c.requires.apart c.requires.rising
          passed rising own.0 own.1,
    )
