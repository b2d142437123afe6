use Rattle.std.proofs.Common.{◌≡◌, ℕ, ◌+◌, ◌≤◌, List, ◌∷◌, ◌++◌, length, get_or, drop, replicate}
use Rattle.std.proofs.Common.{arith, ap, sym, subst, ◌∙◌}
use Rattle.std.specs.List.Sorted.{IsPermutation}
use Rattle.std.proofs.lemmas.List.{length-drop}
use Rattle.ranking_trie.specs.declared.node.Node.{Node}
use Rattle.ranking_trie.specs.Arena.{forest_in, IsApart, IsMoved}
use Rattle.ranking_trie.specs.Bag.{bag, IsRising}
use Rattle.ranking_trie.specs.BallotBag.{count_of}
use Rattle.ranking_trie.specs.Forest.{Forest}
use Rattle.ranking_trie.specs.Fronts.{place_on, KeepsOthers}
use Rattle.ranking_trie.specs.Places.{node_at}
use Rattle.ranking_trie.proofs.ArenaLemmas.{apart_below}
use Rattle.ranking_trie.proofs.BelowLemmas.{two_ranks, take_two, found_below, taken_through, rising_below, rising_through}
use Rattle.ranking_trie.proofs.BelowLemmas.{held_below, still_some, not_empty, still_there}
use Rattle.ranking_trie.proofs.ChangeLemmas.{some_ballots}
use Rattle.ranking_trie.proofs.CountLemmas.{count_of-inside}
use Rattle.ranking_trie.proofs.StepLemmas.{own_ends, IsTaken, taken_below}
use Rattle.ranking_trie.proofs.arena.Arena.take_out_from.Goals as goal

pub node-below-requires : goal.node-below-requires
node-below-requires g c =
    let a = c.args.self.now in
    let b = found_below a c.args.first c.args.place c.args.ranks.now c.requires.apart c.requires.rising
    (omega (arith, c.requires.longer)) c.requires.place c.requires.found in
    let own = own_ends a (node_at a.nodes.items b.upper).first (get_or c.args.ranks.now 1 0) b.after c.args.place
    b.low b.apart in
    record { some = own.0; within = own.1 }

pub remove-below-requires : goal.remove-below-requires
remove-below-requires g c =
    let a = c.args.self.now in
    let ranks = c.args.ranks.now in
    let r = get_or ranks 0 0 in
    let d = get_or ranks 1 0 in
    let f = forest_in a c.args.first in
    let b = found_below a c.args.first c.args.place ranks c.requires.apart c.requires.rising
    (omega (arith, c.requires.longer)) c.requires.place c.requires.found in
    let low = apart_below a (node_at a.nodes.items b.upper).first d b.after c.args.place b.low b.apart in
    let first : c.node-below.result.first ≡ (node_at a.nodes.items c.args.place).first =
    ap (λ (x : Node). x.first) c.node-below.ensures in
    let is : forest_in a c.node-below.result.first ≡ b.low.inner = ap (forest_in a) first ∙ low.0 in
    let all = held_below a c.args.first r d c.args.place (drop 2 ranks) b c.requires.apart in
    record {
      apart = subst (IsApart a) (sym first) low.1;
      ranked = omega (arith, c.requires.longer);
      held =
          omega (
            arith,
            c.requires.held,
            ap (λ (l : List ℕ). count_of l (bag f)) (two_ranks ranks (omega (arith, c.requires.longer))),
            all,
            count_of-inside ranks 2 b.low.ends b.low.inner (omega (arith, c.requires.longer)),
            ap (λ (x : Forest). count_of (drop 2 ranks) (bag x)) is,
          );
      rising = subst (IsRising 0) (sym is) b.low.inner_rising;
      numbers = c.requires.numbers;
      some = c.requires.some;
    }

pub lead_down-requires : goal.lead_down-requires
lead_down-requires g c =
    let a = c.args.self.now in
    let b = found_below a c.args.first c.args.place c.args.ranks.now c.requires.apart c.requires.rising
    (omega (arith, c.requires.longer)) c.requires.place c.requires.found in
    let own = own_ends a (node_at a.nodes.items b.upper).first (get_or c.args.ranks.now 1 0) b.after c.args.place
    b.low b.apart in
    record { some = own.0; within = omega (arith, own.1, c.remove-below.ensures.moved.size) }

pub returns : goal.returns
returns g c =
    let a = c.args.self.now in
    let mid = c.remove-below.new.self in
    let new = c.lead_down.new.self in
    let begin = c.remove-below.result in
    let ranks = c.args.ranks.now in
    let k = c.args.count in
    let r = get_or ranks 0 0 in
    let d = get_or ranks 1 0 in
    let s = drop 2 ranks in
    let f = forest_in a c.args.first in
    let two : 2 ≤ length ranks = omega (arith, c.requires.longer) in
    let b = found_below a c.args.first c.args.place ranks c.requires.apart c.requires.rising two c.requires.place
    c.requires.found in
    let q = (node_at a.nodes.items b.upper).first in
    let is : ranks ≡ r ∷ d ∷ s = two_ranks ranks two in
    let first : c.node-below.result.first ≡ (node_at a.nodes.items c.args.place).first =
    ap (λ (x : Node). x.first) c.node-below.ensures in
    let moved : IsMoved a (node_at a.nodes.items c.args.place).first mid begin =
    subst (λ (p : ℕ). IsMoved a p mid begin) first c.remove-below.ensures.moved in
    let kept : KeepsOthers s (forest_in a (node_at a.nodes.items c.args.place).first) (forest_in mid begin) =
    subst (λ (p : ℕ). KeepsOthers s (forest_in a p) (forest_in mid begin)) first c.remove-below.ensures.kept in
    let low : IsTaken a q new d b.after c.args.place k s =
    taken_below a mid new q d b.after c.args.place begin k s b.low b.apart moved
    (subst (λ (p : ℕ). IsPermutation (bag (forest_in a p)) (replicate k s ++ bag (forest_in mid begin))) first
    c.remove-below.ensures.bag)
    c.remove-below.ensures.rising kept c.lead_down.ensures.nodes c.lead_down.ensures.free
    c.lead_down.ensures.spare in
    let left : 1 ≤ b.low.ends + length (bag (forest_in mid begin)) =
    still_some a q d b.after c.args.place s (forest_in mid begin) b.low b.apart c.requires.firm
    (omega (arith, length-drop 2 ranks, c.requires.longer)) kept c.remove-below.ensures.rising in
    let rising_low : IsRising 0 (forest_in new q) =
    rising_below a mid new q d b.after c.args.place begin b.low b.apart moved c.remove-below.ensures.rising left
    c.lead_down.ensures.nodes c.lead_down.ensures.free c.lead_down.ensures.spare in
    let out : IsTaken a c.args.first new r b.before b.upper k (d ∷ s) =
    taken_through a new c.args.first r b.before b.upper b.after c.args.place k d s b.node c.requires.apart low
    rising_low in
    record {
      moved = out.moved;
      bag = subst (λ (l : List ℕ). IsPermutation (bag f) (replicate k l ++ bag (forest_in new c.args.first))) (sym is)
          out.bag;
      rising =
          rising_through a new c.args.first r b.before b.upper b.node c.requires.apart low.moved rising_low
          (some_ballots 0 (forest_in new q) rising_low
          (not_empty (forest_in new q) d b.after c.args.place low.node));
      room = omega arith;
      kept = subst (λ (l : List ℕ). KeepsOthers l f (forest_in new c.args.first)) (sym is) out.kept;
      there =
          ap (λ (path : List ℕ). place_on 0 path (forest_in new c.args.first)) (take_two ranks two)
          ∙ still_there a new c.args.first r d c.args.place k s b c.requires.apart out low;
      cost = omega arith;
    }
