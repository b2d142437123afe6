use Rattle.std.proofs.Common.{rules, ◌≡◌, ℕ, ◌+◌, ◌<◌, ◌≤◌, List, [], ◌∷◌, ◌++◌, length, get_or, drop, replicate}
use Rattle.std.proofs.Common.{arith, ap, sym, subst, ◌∙◌}
use Rattle.std.specs.List.Sorted.{IsPermutation}
use Rattle.std.proofs.lemmas.List.{drop_more}
use Rattle.ranking_trie.specs.declared.node.Node.{Node}
use Rattle.ranking_trie.specs.Arena.{forest_in, IsApart, IsMoved}
use Rattle.ranking_trie.specs.Bag.{bag, IsRising}
use Rattle.ranking_trie.specs.BallotBag.{count_of}
use Rattle.ranking_trie.specs.Forest.{Forest}
use Rattle.ranking_trie.specs.Fronts.{KeepsOthers}
use Rattle.ranking_trie.specs.Places.{node_at}
use Rattle.ranking_trie.proofs.ArenaLemmas.{apart_below}
use Rattle.ranking_trie.proofs.ChangeLemmas.{moved_on}
use Rattle.ranking_trie.proofs.CountLemmas.{count_of-end, count_of-inside}
use Rattle.ranking_trie.proofs.PathLemmas.{others_on}
use Rattle.ranking_trie.proofs.StepLemmas.{own_ends, last_rank, count_on, IsTaken, taken_at, taken_below}
use Rattle.ranking_trie.proofs.arena.Arena.+remove.Goals as goal

pub held_place-before-requires-clause-held : goal.held_place-before-requires-clause-held
held_place-before-requires-clause-held g t c =
    let ranks = c.args.ranks.now in
    let f = forest_in c.args.self.now c.args.first in (
      drop (c.args.at + 1) ranks,
      omega (
        arith,
        ap (λ (r : List ℕ). count_of r (bag f)) (drop_more ranks c.args.at 0 c.requires.ranked),
        c.requires.held,
        c.requires.some,
      ),
    )

pub end_fewer-requires : goal.end_fewer-requires
end_fewer-requires g t c =
    let ranks = c.args.ranks.now in
    let at = c.args.at in
    let p = c.held_place-before in
    let f = forest_in c.args.self.now c.args.first in
    let own = own_ends c.args.self.now c.args.first (get_or ranks at 0) p.result.0 p.result.1 p.ensures c.requires.apart in
    let all = count_on ranks at p.result.0 p.result.1 f p.ensures c.requires.ranked in
    let last = count_of-end ranks (at + 1) p.ensures.ends p.ensures.inner (omega arith) in
    record {
      some = own.0;
      within = own.1;
      held = omega (arith, own.2, all, last, c.requires.held);
    }

pub drop_idle-requires : goal.drop_idle-requires
drop_idle-requires g t c =
    let ranks = c.args.ranks.now in
    let at = c.args.at in
    let p = c.held_place-before in
    let f = forest_in c.args.self.now c.args.first in
    let all = count_on ranks at p.result.0 p.result.1 f p.ensures c.requires.ranked in
    let last = count_of-end ranks (at + 1) p.ensures.ends p.ensures.inner (omega arith) in
    let out =
    taken_at c.args.self.now c.end_fewer.new.self c.args.first (get_or ranks at 0) p.result.0 p.result.1
    c.args.count p.ensures c.requires.apart (omega (arith, all, last, c.requires.held))
    c.end_fewer.ensures.nodes c.end_fewer.ensures.free c.end_fewer.ensures.spare in
    record { apart = out.moved.apart; node = (get_or ranks at 0, out.node) }

pub returns-then-at-ranks : goal.returns-then-at-ranks
returns-then-at-ranks g t c =
    let ranks = c.args.ranks.now in
    let at = c.args.at in
    let k = c.args.count in
    let r = get_or ranks at 0 in
    let old = c.args.self.now in
    let mid = c.end_fewer.new.self in
    let new = c.drop_idle.new.self in
    let p = c.held_place-before in
    let f = forest_in old c.args.first in
    let all = count_on ranks at p.result.0 p.result.1 f p.ensures c.requires.ranked in
    let end = count_of-end ranks (at + 1) p.ensures.ends p.ensures.inner (omega arith) in
    let last : drop at ranks ≡ r ∷ [] = last_rank ranks at c.requires.ranked (omega arith) in
    let out : IsTaken old c.args.first mid r p.result.0 p.result.1 k [] =
    taken_at old mid c.args.first r p.result.0 p.result.1 k p.ensures c.requires.apart
    (omega (arith, all, end, c.requires.held)) c.end_fewer.ensures.nodes c.end_fewer.ensures.free
    c.end_fewer.ensures.spare in
    record {
      moved = moved_on old mid new c.args.first c.args.first c.drop_idle.result out.moved c.drop_idle.ensures.moved;
      bag =
          subst (λ (l : List ℕ). IsPermutation (bag f) (replicate k l ++ bag (forest_in new c.drop_idle.result)))
          (sym last)
          (subst (λ (b : List (List ℕ)). IsPermutation (bag f) (replicate k (r ∷ []) ++ b))
          (sym c.drop_idle.ensures.bag) out.bag);
      rising = c.drop_idle.ensures.rising;
      kept =
          subst (λ (l : List ℕ). KeepsOthers l f (forest_in new c.drop_idle.result)) (sym last)
          (others_on r [] f (forest_in mid c.args.first) (forest_in new c.drop_idle.result) out.kept
          (c.drop_idle.ensures.kept r out.node));
      room = omega arith;
      cost = omega arith;
    }

pub node-below-requires : goal.node-below-requires
node-below-requires g t c =
    let p = c.held_place-before in
    let own = own_ends c.args.self.now c.args.first (get_or c.args.ranks.now c.args.at 0) p.result.0 p.result.1
    p.ensures c.requires.apart in
    record { some = own.0; within = own.1 }

pub remove-below-requires : goal.remove-below-requires
remove-below-requires g t c κs within =
    let ranks = c.args.ranks.now in
    let at = c.args.at in
    let old = c.args.self.now in
    let p = c.held_place-before in
    let h = p.ensures in
    let f = forest_in old c.args.first in
    let low = apart_below old c.args.first (get_or ranks at 0) p.result.0 p.result.1 h c.requires.apart in
    let first : c.node-below.result.first ≡ (node_at old.nodes.items p.result.1).first =
    ap (λ (x : Node). x.first) c.node-below.ensures in
    let is : forest_in old c.node-below.result.first ≡ h.inner = ap (forest_in old) first ∙ low.0 in
    let apart : IsApart old c.node-below.result.first = subst (IsApart old) (sym first) low.1 in
    let rising : IsRising 0 (forest_in old c.node-below.result.first) = subst (IsRising 0) (sym is) h.inner_rising in
    let inside : at + 1 < length ranks = omega arith in
    let all = count_on ranks at p.result.0 p.result.1 f h c.requires.ranked in
    let deeper = count_of-inside ranks (at + 1) h.ends h.inner inside in
    let held : c.args.count ≤ count_of (drop (at + 1) ranks) (bag (forest_in old c.node-below.result.first)) =
    omega (
      arith,
      all,
      deeper,
      c.requires.held,
      ap (λ (x : Forest). count_of (drop (at + 1) ranks) (bag x)) is,
    ) in
    search rules

pub lead_down-requires : goal.lead_down-requires
lead_down-requires g t c =
    let p = c.held_place-before in
    let own = own_ends c.args.self.now c.args.first (get_or c.args.ranks.now c.args.at 0) p.result.0 p.result.1
    p.ensures c.requires.apart in
    record { some = own.0; within = omega (arith, own.1, c.remove-below.ensures.moved.size) }

pub drop_idle-requires-2 : goal.drop_idle-requires-2
drop_idle-requires-2 g t c =
    let ranks = c.args.ranks.now in
    let at = c.args.at in
    let old = c.args.self.now in
    let mid = c.remove-below.new.self in
    let p = c.held_place-before in
    let first : c.node-below.result.first ≡ (node_at old.nodes.items p.result.1).first =
    ap (λ (x : Node). x.first) c.node-below.ensures in
    let out =
    taken_below old mid c.lead_down.new.self c.args.first (get_or ranks at 0) p.result.0 p.result.1
    c.remove-below.result c.args.count (drop (at + 1) ranks) p.ensures c.requires.apart
    (subst (λ (q : ℕ). IsMoved old q mid c.remove-below.result) first c.remove-below.ensures.moved)
    (subst (λ (q : ℕ). IsPermutation (bag (forest_in old q))
    (replicate c.args.count (drop (at + 1) ranks) ++ bag (forest_in mid c.remove-below.result))) first
    c.remove-below.ensures.bag) c.remove-below.ensures.rising
    (subst (λ (q : ℕ). KeepsOthers (drop (at + 1) ranks) (forest_in old q) (forest_in mid c.remove-below.result)) first
    c.remove-below.ensures.kept)
    c.lead_down.ensures.nodes c.lead_down.ensures.free c.lead_down.ensures.spare in
    record { apart = out.moved.apart; node = (get_or ranks at 0, out.node) }

pub returns : goal.returns
returns g t c =
    let ranks = c.args.ranks.now in
    let at = c.args.at in
    let k = c.args.count in
    let r = get_or ranks at 0 in
    let s = drop (at + 1) ranks in
    let old = c.args.self.now in
    let mid = c.remove-below.new.self in
    let led = c.lead_down.new.self in
    let new = c.drop_idle-2.new.self in
    let p = c.held_place-before in
    let f = forest_in old c.args.first in
    let next : drop at ranks ≡ r ∷ s = drop_more ranks at 0 c.requires.ranked in
    let first : c.node-below.result.first ≡ (node_at old.nodes.items p.result.1).first =
    ap (λ (x : Node). x.first) c.node-below.ensures in
    let out : IsTaken old c.args.first led r p.result.0 p.result.1 k s =
    taken_below old mid led c.args.first r p.result.0 p.result.1 c.remove-below.result k s p.ensures
    c.requires.apart
    (subst (λ (q : ℕ). IsMoved old q mid c.remove-below.result) first c.remove-below.ensures.moved)
    (subst (λ (q : ℕ). IsPermutation (bag (forest_in old q))
    (replicate k s ++ bag (forest_in mid c.remove-below.result))) first c.remove-below.ensures.bag)
    c.remove-below.ensures.rising
    (subst (λ (q : ℕ). KeepsOthers s (forest_in old q) (forest_in mid c.remove-below.result)) first
    c.remove-below.ensures.kept)
    c.lead_down.ensures.nodes c.lead_down.ensures.free c.lead_down.ensures.spare in
    record {
      moved = moved_on old led new c.args.first c.args.first c.drop_idle-2.result out.moved c.drop_idle-2.ensures.moved;
      bag =
          subst (λ (l : List ℕ). IsPermutation (bag f) (replicate k l ++ bag (forest_in new c.drop_idle-2.result)))
          (sym next)
          (subst (λ (b : List (List ℕ)). IsPermutation (bag f) (replicate k (r ∷ s) ++ b))
          (sym c.drop_idle-2.ensures.bag) out.bag);
      rising = c.drop_idle-2.ensures.rising;
      kept =
          subst (λ (l : List ℕ). KeepsOthers l f (forest_in new c.drop_idle-2.result)) (sym next)
          (others_on r s f (forest_in led c.args.first) (forest_in new c.drop_idle-2.result) out.kept
          (c.drop_idle-2.ensures.kept r out.node));
      room = omega arith;
      cost = omega arith;
    }
