use Rattle.std.proofs.Common.{◌≡◌, ℕ, List, [], ◌∷◌, ◌++◌, length, get_or, drop, replicate}
use Rattle.std.proofs.Common.{arith, ap, sym, subst, ◌∙◌}
use Rattle.std.specs.List.Sorted.{IsPermutation}
use Rattle.std.proofs.lemmas.List.{drop_all}
use Rattle.ranking_trie.specs.declared.node.Node.{Node}
use Rattle.ranking_trie.specs.Arena.{forest_in, IsApart, IsMoved}
use Rattle.ranking_trie.specs.Bag.{bag, IsRising}
use Rattle.ranking_trie.specs.Forest.{Forest}
use Rattle.ranking_trie.specs.Fronts.{KeepsPlaces}
use Rattle.ranking_trie.specs.Places.{node_at}
use Rattle.ranking_trie.proofs.ArenaLemmas.{apart_below}
use Rattle.ranking_trie.proofs.ChangeLemmas.{ends_few}
use Rattle.ranking_trie.proofs.BelowLemmas.{two_ranks, found_below, put_through}
use Rattle.ranking_trie.proofs.StepLemmas.{own_ends, IsPut, put_at, put_below}
use Rattle.ranking_trie.proofs.arena.Arena.put_from.Goals as goal

pub end_at-requires : goal.end_at-requires
end_at-requires g c =
    let a = c.args.self.now in
    let d = get_or c.args.ranks.now 1 0 in
    let b = found_below a c.args.first c.args.place c.args.ranks.now c.requires.apart c.requires.rising c.requires.two
    c.requires.place c.requires.found in
    let q = (node_at a.nodes.items b.upper).first in
    let own = own_ends a q d b.after c.args.place b.low b.apart in
    record {
      some = own.0;
      within = own.1;
      few = omega (arith, own.2, ends_few (forest_in a q) d b.after c.args.place b.low, b.few, c.requires.few);
    }

pub returns-then-ranks-eq2 : goal.returns-then-ranks-eq2
returns-then-ranks-eq2 g c =
    let a = c.args.self.now in
    let new = c.end_at.new.self in
    let ranks = c.args.ranks.now in
    let k = c.args.count in
    let r = get_or ranks 0 0 in
    let d = get_or ranks 1 0 in
    let f = forest_in a c.args.first in
    let b = found_below a c.args.first c.args.place ranks c.requires.apart c.requires.rising c.requires.two c.requires.place
    c.requires.found in
    let none : drop 2 ranks ≡ [] = drop_all 2 ranks (omega (arith, c.if-ranks-eq2.true)) in
    let is : ranks ≡ r ∷ d ∷ [] =
    two_ranks ranks c.requires.two ∙ ap (λ (l : List ℕ). r ∷ d ∷ l) none in
    let low : IsPut a (node_at a.nodes.items b.upper).first new (replicate k (d ∷ [])) =
    put_at a new (node_at a.nodes.items b.upper).first d b.after c.args.place k b.low b.apart c.requires.some
    c.end_at.ensures.nodes c.end_at.ensures.free c.end_at.ensures.spare in
    let put : IsPut a c.args.first new (replicate k (r ∷ d ∷ [])) =
    put_through a new c.args.first r b.before b.upper k (d ∷ []) b.node c.requires.apart c.requires.some low in
    record {
      moved = put.moved;
      bag = subst (λ (l : List ℕ). IsPermutation (bag (forest_in new c.args.first)) (replicate k l ++ bag f)) (sym is)
          put.bag;
      rising = put.rising;
      room = omega arith;
      kept = put.kept;
      cost = omega arith;
    }

pub node-below-requires : goal.node-below-requires
node-below-requires g c =
    let a = c.args.self.now in
    let b = found_below a c.args.first c.args.place c.args.ranks.now c.requires.apart c.requires.rising c.requires.two
    c.requires.place c.requires.found in
    let own = own_ends a (node_at a.nodes.items b.upper).first (get_or c.args.ranks.now 1 0) b.after c.args.place
    b.low b.apart in
    record { some = own.0; within = own.1 }

pub add-below-requires : goal.add-below-requires
add-below-requires g c =
    let a = c.args.self.now in
    let ranks = c.args.ranks.now in
    let d = get_or ranks 1 0 in
    let b = found_below a c.args.first c.args.place ranks c.requires.apart c.requires.rising c.requires.two c.requires.place
    c.requires.found in
    let q = (node_at a.nodes.items b.upper).first in
    let low = apart_below a q d b.after c.args.place b.low b.apart in
    let all = ends_few (forest_in a q) d b.after c.args.place b.low in
    let first : c.node-below.result.first ≡ (node_at a.nodes.items c.args.place).first =
    ap (λ (x : Node). x.first) c.node-below.ensures in
    let is : forest_in a c.node-below.result.first ≡ b.low.inner = ap (forest_in a) first ∙ low.0 in
    record {
      apart = subst (IsApart a) (sym first) low.1;
      ranked = omega (arith, c.requires.two, c.if-ranks-eq2.false);
      room = omega (arith, c.requires.room);
      few = omega (arith, ap (λ (f : Forest). length (bag f)) is, all, b.few, c.requires.few);
      rising = subst (IsRising 0) (sym is) b.low.inner_rising;
      numbers = c.requires.numbers;
      some = c.requires.some;
    }

pub lead_down-requires : goal.lead_down-requires
lead_down-requires g c =
    let a = c.args.self.now in
    let b = found_below a c.args.first c.args.place c.args.ranks.now c.requires.apart c.requires.rising c.requires.two
    c.requires.place c.requires.found in
    let own = own_ends a (node_at a.nodes.items b.upper).first (get_or c.args.ranks.now 1 0) b.after c.args.place
    b.low b.apart in
    record { some = own.0; within = omega (arith, own.1, c.add-below.ensures.moved.size) }

pub returns : goal.returns
returns g c =
    let a = c.args.self.now in
    let mid = c.add-below.new.self in
    let new = c.lead_down.new.self in
    let ranks = c.args.ranks.now in
    let k = c.args.count in
    let r = get_or ranks 0 0 in
    let d = get_or ranks 1 0 in
    let s = drop 2 ranks in
    let f = forest_in a c.args.first in
    let b = found_below a c.args.first c.args.place ranks c.requires.apart c.requires.rising c.requires.two c.requires.place
    c.requires.found in
    let q = (node_at a.nodes.items b.upper).first in
    let is : ranks ≡ r ∷ d ∷ s = two_ranks ranks c.requires.two in
    let first : c.node-below.result.first ≡ (node_at a.nodes.items c.args.place).first =
    ap (λ (x : Node). x.first) c.node-below.ensures in
    let low : IsPut a q new (replicate k (d ∷ s)) =
    put_below a mid new q d b.after c.args.place c.add-below.result k s b.low b.apart c.requires.some
    (subst (λ (p : ℕ). IsMoved a p mid c.add-below.result) first c.add-below.ensures.moved)
    (subst (λ (p : ℕ). IsPermutation (bag (forest_in mid c.add-below.result)) (replicate k s ++ bag (forest_in a p)))
    first c.add-below.ensures.bag)
    c.add-below.ensures.rising
    (subst (λ (p : ℕ). KeepsPlaces (forest_in a p) (forest_in mid c.add-below.result)) first c.add-below.ensures.kept)
    c.lead_down.ensures.nodes c.lead_down.ensures.free c.lead_down.ensures.spare in
    let put : IsPut a c.args.first new (replicate k (r ∷ d ∷ s)) =
    put_through a new c.args.first r b.before b.upper k (d ∷ s) b.node c.requires.apart c.requires.some low in
    record {
      moved = put.moved;
      bag = subst (λ (l : List ℕ). IsPermutation (bag (forest_in new c.args.first)) (replicate k l ++ bag f)) (sym is)
          put.bag;
      rising = put.rising;
      room = omega arith;
      kept = put.kept;
      cost = omega arith;
    }
