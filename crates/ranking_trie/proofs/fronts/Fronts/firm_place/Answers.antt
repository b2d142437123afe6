use Rattle.std.proofs.Common.{◌≤◌, length, get_or, arith}
use Rattle.ranking_trie.specs.Arena.{forest_in}
use Rattle.ranking_trie.specs.Places.{node_at}
use Rattle.ranking_trie.proofs.ArenaLemmas.{apart_below}
use Rattle.ranking_trie.proofs.BelowLemmas.{found_below}
use Rattle.ranking_trie.proofs.FrontLemmas.{known_place}
use Rattle.ranking_trie.proofs.StepLemmas.{own_ends}
use Rattle.ranking_trie.proofs.fronts.Fronts.firm_place.Goals as goal

pub is_firm-requires : goal.is_firm-requires
is_firm-requires c =
    let a = c.args.arena.now in
    let ranks = c.args.ranks.now in
    let place = c.place-place.result in
    let two : 2 ≤ length ranks = omega (arith, c.if-ranks-lt3.false) in
    let b = found_below a c.args.first place ranks c.requires.apart c.requires.rising two
    (known_place c.args.self.now (forest_in a c.args.first) ranks place c.requires.known c.requires.numbers two
    (c.place-place.ensures.known two) c.if-place-eq0.false)
    (omega (arith, c.if-place-eq0.false)) in
    let q = (node_at a.nodes.items b.upper).first in
    let own = own_ends a q (get_or ranks 1 0) b.after place b.low b.apart in
    record {
      some = own.0;
      within = own.1;
      below = (apart_below a q (get_or ranks 1 0) b.after place b.low b.apart).1.used;
    }

pub returns-then-is_firm-clause-place : goal.returns-then-is_firm-clause-place
returns-then-is_firm-clause-place c = λ some.
    let ranks = c.args.ranks.now in
    let two : 2 ≤ length ranks = omega (arith, c.if-ranks-lt3.false) in
    known_place c.args.self.now (forest_in c.args.arena.now c.args.first) ranks c.place-place.result c.requires.known
    c.requires.numbers two (c.place-place.ensures.known two) c.if-place-eq0.false
