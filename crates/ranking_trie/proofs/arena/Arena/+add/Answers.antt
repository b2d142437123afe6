use Rattle.std.proofs.Common.{rules, ◌≡◌, ℕ, ◌+◌, ◌<◌, ◌≤◌, List, [], ◌∷◌, ◌++◌, length, get_or, drop, replicate}
use Rattle.std.proofs.Common.{arith, ap, sym, subst, ◌∙◌}
use Rattle.std.specs.List.Sorted.{IsPermutation}
use Rattle.std.proofs.lemmas.List.{drop_more}
use Rattle.ranking_trie.specs.declared.node.Node.{Node}
use Rattle.ranking_trie.specs.Arena.{forest_in, IsApart, IsMoved}
use Rattle.ranking_trie.specs.Bag.{bag, IsRising}
use Rattle.ranking_trie.specs.Forest.{Forest}
use Rattle.ranking_trie.specs.Fronts.{KeepsPlaces}
use Rattle.ranking_trie.specs.Places.{node_at}
use Rattle.ranking_trie.proofs.ArenaLemmas.{apart_below}
use Rattle.ranking_trie.proofs.ChangeLemmas.{moved_on, ends_few}
use Rattle.ranking_trie.proofs.PathLemmas.{keeps_on}
use Rattle.ranking_trie.proofs.StepLemmas.{own_ends, last_rank, IsPut, put_at, put_below}
use Rattle.ranking_trie.proofs.arena.Arena.+add.Goals as goal

pub end_at-requires : goal.end_at-requires
end_at-requires g t c =
    let p = c.place_of-first in
    let r = get_or c.args.ranks.now c.args.at 0 in
    let h = p.ensures.node.1 in
    let own = own_ends p.new.self p.result.0 r p.ensures.node.0 p.result.1 h p.ensures.moved.apart in
    let all = ends_few (forest_in p.new.self p.result.0) r p.ensures.node.0 p.result.1 h in
    record {
      some = own.0;
      within = own.1;
      few = omega (arith, own.2, all, ap length p.ensures.bag, c.requires.few);
    }

pub returns-then-at-ranks : goal.returns-then-at-ranks
returns-then-at-ranks g t c =
    let ranks = c.args.ranks.now in
    let at = c.args.at in
    let k = c.args.count in
    let r = get_or ranks at 0 in
    let p = c.place_of-first in
    let new = c.end_at.new.self in
    let more : drop at ranks ≡ r ∷ [] = last_rank ranks at c.requires.ranked (omega arith) in
    let put : IsPut p.new.self p.result.0 new (replicate k (r ∷ [])) =
    put_at p.new.self new p.result.0 r p.ensures.node.0 p.result.1 k p.ensures.node.1 p.ensures.moved.apart
    c.requires.some c.end_at.ensures.nodes c.end_at.ensures.free c.end_at.ensures.spare in
    record {
      moved = moved_on c.args.self.now p.new.self new c.args.first p.result.0 p.result.0 p.ensures.moved put.moved;
      bag =
          subst (λ (l : List ℕ). IsPermutation (bag (forest_in new p.result.0))
          (replicate k l ++ bag (forest_in c.args.self.now c.args.first))) (sym more)
          (subst (λ (b : List (List ℕ)). IsPermutation (bag (forest_in new p.result.0)) (replicate k (r ∷ []) ++ b))
          p.ensures.bag put.bag);
      rising = put.rising;
      kept =
          keeps_on (forest_in c.args.self.now c.args.first) (forest_in p.new.self p.result.0) (forest_in new p.result.0)
          p.ensures.kept put.kept;
      room = omega arith;
      cost = omega arith;
    }

pub node-below-requires : goal.node-below-requires
node-below-requires g t c =
    let p = c.place_of-first in
    let own = own_ends p.new.self p.result.0 (get_or c.args.ranks.now c.args.at 0) p.ensures.node.0 p.result.1
    p.ensures.node.1 p.ensures.moved.apart in
    record { some = own.0; within = own.1 }

pub add-below-requires : goal.add-below-requires
add-below-requires g t c κs within =
    let p = c.place_of-first in
    let h = p.ensures.node.1 in
    let low = apart_below p.new.self p.result.0 (get_or c.args.ranks.now c.args.at 0) p.ensures.node.0 p.result.1 h
    p.ensures.moved.apart in
    let all = ends_few (forest_in p.new.self p.result.0) (get_or c.args.ranks.now c.args.at 0) p.ensures.node.0
    p.result.1 h in
    let first : c.node-below.result.first ≡ (node_at p.new.self.nodes.items p.result.1).first =
    ap (λ (x : Node). x.first) c.node-below.ensures in
    let is : forest_in p.new.self c.node-below.result.first ≡ h.inner = ap (forest_in p.new.self) first ∙ low.0 in
    let apart : IsApart p.new.self c.node-below.result.first = subst (IsApart p.new.self) (sym first) low.1 in
    let rising : IsRising 0 (forest_in p.new.self c.node-below.result.first) =
    subst (IsRising 0) (sym is) h.inner_rising in
    let few : length (bag (forest_in p.new.self c.node-below.result.first)) + c.args.count < 4294967296 =
    omega (arith, ap (λ (f : Forest). length (bag f)) is, all, ap length p.ensures.bag, c.requires.few) in
    let room : length c.args.ranks.now ≤ p.new.self.spare + (c.args.at + 1) =
    omega (arith, p.ensures.room, c.requires.room) in
    search rules

pub lead_down-requires : goal.lead_down-requires
lead_down-requires g t c =
    let p = c.place_of-first in
    let own = own_ends p.new.self p.result.0 (get_or c.args.ranks.now c.args.at 0) p.ensures.node.0 p.result.1
    p.ensures.node.1 p.ensures.moved.apart in
    record { some = own.0; within = omega (arith, own.1, c.add-below.ensures.moved.size) }

pub returns : goal.returns
returns g t c =
    let ranks = c.args.ranks.now in
    let at = c.args.at in
    let k = c.args.count in
    let r = get_or ranks at 0 in
    let s = drop (at + 1) ranks in
    let p = c.place_of-first in
    let mid = c.add-below.new.self in
    let new = c.lead_down.new.self in
    let next : drop at ranks ≡ r ∷ s = drop_more ranks at 0 c.requires.ranked in
    let first : c.node-below.result.first ≡ (node_at p.new.self.nodes.items p.result.1).first =
    ap (λ (x : Node). x.first) c.node-below.ensures in
    let put : IsPut p.new.self p.result.0 new (replicate k (r ∷ s)) =
    put_below p.new.self mid new p.result.0 r p.ensures.node.0 p.result.1 c.add-below.result k s
    p.ensures.node.1 p.ensures.moved.apart c.requires.some
    (subst (λ (q : ℕ). IsMoved p.new.self q mid c.add-below.result) first c.add-below.ensures.moved)
    (subst (λ (q : ℕ). IsPermutation (bag (forest_in mid c.add-below.result))
    (replicate k s ++ bag (forest_in p.new.self q))) first c.add-below.ensures.bag)
    c.add-below.ensures.rising
    (subst (λ (q : ℕ). KeepsPlaces (forest_in p.new.self q) (forest_in mid c.add-below.result)) first
    c.add-below.ensures.kept)
    c.lead_down.ensures.nodes c.lead_down.ensures.free c.lead_down.ensures.spare in
    record {
      moved = moved_on c.args.self.now p.new.self new c.args.first p.result.0 p.result.0 p.ensures.moved put.moved;
      bag =
          subst (λ (l : List ℕ). IsPermutation (bag (forest_in new p.result.0))
          (replicate k l ++ bag (forest_in c.args.self.now c.args.first))) (sym next)
          (subst (λ (b : List (List ℕ)). IsPermutation (bag (forest_in new p.result.0)) (replicate k (r ∷ s) ++ b))
          p.ensures.bag put.bag);
      rising = put.rising;
      kept =
          keeps_on (forest_in c.args.self.now c.args.first) (forest_in p.new.self p.result.0) (forest_in new p.result.0)
          p.ensures.kept put.kept;
      room = omega arith;
      cost = omega arith;
    }
