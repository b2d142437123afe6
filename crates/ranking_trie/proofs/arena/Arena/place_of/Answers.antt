use Rattle.std.proofs.Common.{◌≡◌, ℕ, ◌-◌, List, set, length, length-set, arith, ap, sym, subst, ◌∙◌}
use Rattle.ranking_trie.specs.declared.node.Node.{Node}
use Rattle.ranking_trie.specs.Arena.{forest_in, IsPassed, HasNode}
use Rattle.ranking_trie.specs.Bag.{IsRising}
use Rattle.ranking_trie.specs.Places.{node_at, forest_at}
use Rattle.ranking_trie.proofs.HangLemmas.{node_found, IsHung, hung, spare_opened, place_within, before_within}
use Rattle.ranking_trie.proofs.arena.Arena.place_of.Goals as goal

pub returns-then-is_of-clause-node : goal.returns-then-is_of-clause-node
returns-then-is_of-clause-node c =
    let p = c.find_place-before in
    let passed =
    subst (λ (l : List Node). IsPassed l c.args.first c.args.c p.result.0 p.result.1) c.nodes.ensures p.ensures.parted in
    let rising =
    subst (λ (l : List Node). IsRising (c.args.c - 1) (forest_at l p.result.1)) c.nodes.ensures p.ensures.rising in
    let own = c.is_of.ensures.same c.if-is_of.true in (
      p.result.0,
      node_found c.args.self.now c.args.first c.args.c p.result.0 p.result.1 c.requires.apart c.requires.rising
          passed rising own.0 own.1,
    )

pub is_of-requires : goal.is_of-requires
is_of-requires c =
    let p = c.find_place-before in
    let passed =
    subst (λ (l : List Node). IsPassed l c.args.first c.args.c p.result.0 p.result.1) c.nodes.ensures p.ensures.parted in
    place_within c.args.self.now.nodes.items p.result.1 passed.rest

pub take-new-requires-clause-within : goal.take-new-requires-clause-within
take-new-requires-clause-within c = (spare_opened c.args.self.now c.args.first c.requires.apart c.requires.room).within

pub lead-requires : goal.lead-requires
lead-requires c =
    let p = c.find_place-before in
    let passed =
    subst (λ (l : List Node). IsPassed l c.args.first c.args.c p.result.0 p.result.1) c.nodes.ensures p.ensures.parted in
    let inside = before_within c.args.self.now.nodes.items c.args.first c.args.c p.result.0 p.result.1
    c.requires.apart.used passed in
    let node : Node = record { candidate = c.args.c; ends = 0; first = 0; next = p.result.1 } in
    omega (arith, ap length c.take-new.ensures.nodes, length-set c.args.self.now.nodes.items (c.args.self.now.free - 1) node)

pub returns : goal.returns
returns c =
    let old = c.args.self.now in
    let mid = c.take-new.new.self in
    let new = c.lead.new.self in
    let p = c.find_place-before in
    let before = p.result.0 in
    let at = p.result.1 in
    let passed = subst (λ (l : List Node). IsPassed l c.args.first c.args.c before at) c.nodes.ensures p.ensures.parted in
    let rising = subst (λ (l : List Node). IsRising (c.args.c - 1) (forest_at l at)) c.nodes.ensures p.ensures.rising in
    let place : c.take-new.result ≡ old.free = c.take-new.ensures.place in
    let h : IsHung old c.args.first new c.lead.result c.args.c before old.free =
    hung old mid new c.args.first c.args.c before at c.lead.result c.requires.apart c.requires.rising passed
    rising (c.is_of.ensures.other c.if-is_of.false) c.requires.room c.take-new.ensures.nodes
    c.take-new.ensures.free c.take-new.ensures.spare (λ none. c.lead.ensures.begin none ∙ place)
    c.lead.ensures.untouched c.lead.ensures.behind
    (λ some. subst (λ (r : ℕ). new.nodes.items
    ≡ set mid.nodes.items (before - 1) (record (node_at mid.nodes.items before) { next = r }))
    place (c.lead.ensures.linked some))
    c.lead.ensures.free c.lead.ensures.spare in
    record {
      moved = h.moved;
      node = (
        before,
        subst (λ (r : ℕ). HasNode (forest_in new c.lead.result) c.args.c before r) (sym place) h.node,
      );
      bag = h.bag;
      kept = h.kept;
      room = omega arith;
    }
