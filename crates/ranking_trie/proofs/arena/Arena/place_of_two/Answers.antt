use Rattle.std.proofs.Common.{◌≡◌, [], ◌∷◌, arith, ap, sym, subst, ◌∙◌}
use Rattle.ranking_trie.specs.declared.node.Node.{Node}
use Rattle.ranking_trie.specs.Arena.{forest_in, IsApart}
use Rattle.ranking_trie.specs.Bag.{IsRising}
use Rattle.ranking_trie.specs.Fronts.{place_on}
use Rattle.ranking_trie.specs.Places.{node_at}
use Rattle.ranking_trie.proofs.ArenaLemmas.{apart_below}
use Rattle.ranking_trie.proofs.PathLemmas.{leads_to}
use Rattle.ranking_trie.proofs.StepLemmas.{own_ends}
use Rattle.ranking_trie.proofs.arena.Arena.place_of_two.Goals as goal

pub node-below-requires : goal.node-below-requires
node-below-requires c =
    let h = c.seek-at.ensures (omega (arith, c.if-at-eq0.false)) in
    let own = own_ends c.args.self.now c.args.first c.args.c h.0 c.seek-at.result h.1 c.requires.apart in
    record { some = own.0; within = own.1 }

pub seek-requires : goal.seek-requires
seek-requires c =
    let a = c.args.self.now in
    let h = c.seek-at.ensures (omega (arith, c.if-at-eq0.false)) in
    let low = apart_below a c.args.first c.args.c h.0 c.seek-at.result h.1 c.requires.apart in
    let first : c.node-below.result.first ≡ (node_at a.nodes.items c.seek-at.result).first =
    ap (λ (x : Node). x.first) c.node-below.ensures in
    record {
      apart = subst (IsApart a) (sym first) low.1;
      number = c.requires.numbers.1;
      rising = subst (IsRising 0) (sym (ap (forest_in a) first ∙ low.0)) h.1.inner_rising;
    }

pub returns : goal.returns
returns c = λ some.
    let a = c.args.self.now in
    let h = c.seek-at.ensures (omega (arith, c.if-at-eq0.false)) in
    let low = apart_below a c.args.first c.args.c h.0 c.seek-at.result h.1 c.requires.apart in
    let first : c.node-below.result.first ≡ (node_at a.nodes.items c.seek-at.result).first =
    ap (λ (x : Node). x.first) c.node-below.ensures in
    let d = c.seek.ensures some in
    let is : forest_in a c.node-below.result.first ≡ h.1.inner = ap (forest_in a) first ∙ low.0 in
    leads_to 0 c.args.c h.0 c.seek-at.result (c.args.d ∷ []) (forest_in a c.args.first) h.1
    ∙ (ap (place_on c.seek-at.result (c.args.d ∷ [])) (sym is)
    ∙ leads_to c.seek-at.result c.args.d d.0 c.seek.result [] (forest_in a c.node-below.result.first) d.1)
