use Rattle.std.proofs.Common.{◌≤◌, ℕ, List, [], ◌∷◌, ◌++◌, length, get_or, drop, replicate, arith, ap}
use Rattle.ranking_trie.specs.Arena.{forest_in}
use Rattle.ranking_trie.specs.Bag.{bag}
use Rattle.ranking_trie.specs.BallotBag.{count_of}
use Rattle.ranking_trie.specs.Forest.{Forest}
use Rattle.ranking_trie.proofs.BagLemmas.{put_behind}
use Rattle.ranking_trie.proofs.BelowLemmas.{two_ranks}
use Rattle.ranking_trie.proofs.CountLemmas.{count_of-deeper}
use Rattle.ranking_trie.proofs.FrontLemmas.{few_numbers, other_pair, known_others, known_fewer, known_set, known_again}
use Rattle.ranking_trie.proofs.fronts.Fronts.take_out.Goals as goal

-- ballots that name somebody are below the root
below_root :
    (ranks : List ℕ) (count ends : ℕ) (f : Forest) → 2 ≤ length ranks
    → count ≤ count_of ranks (replicate ends [] ++ bag f) → count ≤ count_of ranks (bag f)
below_root ranks count ends f two held =
    let is = two_ranks ranks two in
    omega (
      arith,
      held,
      ap (λ (r : List ℕ). count_of r (replicate ends [] ++ bag f)) is,
      ap (λ (r : List ℕ). count_of r (bag f)) is,
      count_of-deeper (get_or ranks 0 0) ends (get_or ranks 1 0 ∷ drop 2 ranks) f,
    )

pub take_out_from-first-requires : goal.take_out_from-first-requires
take_out_from-first-requires g c =
    let ranks = c.args.ranks.now in
    let p = c.firm_place-place in
    let found : 1 ≤ p.result = omega (arith, c.if-place-ne0.true) in
    let longer = p.ensures.longer found in
    record {
      apart = c.requires.apart;
      longer = longer;
      place = p.ensures.place found;
      found = found;
      firm = p.ensures.firm found;
      held =
          below_root ranks c.args.count c.args.ends (forest_in c.args.arena.now c.args.first) (omega (arith, longer))
          c.requires.held;
      rising = c.requires.rising;
      numbers = few_numbers ranks c.args.self.now.candidates c.requires.few c.requires.numbers;
      some = c.requires.some;
    }

pub returns-then-place-ne0-clause-bag : goal.returns-then-place-ne0-clause-bag
returns-then-place-ne0-clause-bag g c =
    put_behind (replicate c.args.ends []) (bag (forest_in c.take_out_from-first.new.self c.take_out_from-first.result))
    (bag (forest_in c.args.arena.now c.args.first)) (replicate c.args.count c.args.ranks.now)
    c.take_out_from-first.ensures.bag

pub returns-then-place-ne0-clause-known : goal.returns-then-place-ne0-clause-known
returns-then-place-ne0-clause-known g c =
    let p = c.firm_place-place in
    let found : 1 ≤ p.result = omega (arith, c.if-place-ne0.true) in
    known_again c.args.self.now (forest_in c.args.arena.now c.args.first)
    (forest_in c.take_out_from-first.new.self c.take_out_from-first.result) c.args.ranks.now p.result
    (omega (arith, p.ensures.longer found)) c.requires.known c.take_out_from-first.ensures.kept
    (p.ensures.entry found) c.take_out_from-first.ensures.there

pub take_out-ends-requires : goal.take_out-ends-requires
take_out-ends-requires g c = record {
  apart = c.requires.apart;
  held = c.requires.held;
  rising = c.requires.rising;
  numbers = few_numbers c.args.ranks.now c.args.self.now.candidates c.requires.few c.requires.numbers;
  some = c.requires.some;
}

pub returns-then-ranks-ge2-clause-known : goal.returns-then-ranks-ge2-clause-known
returns-then-ranks-ge2-clause-known g c =
    let ranks = c.args.ranks.now in
    let f = forest_in c.args.arena.now c.args.first in
    let h = forest_in c.take_out-ends.new.self c.take_out-ends.result.1 in
    known_set c.args.self.now c.set.new.self h (get_or ranks 0 0) (get_or ranks 1 0) 0 c.set.ensures.candidates
    c.set.ensures.own c.set.ensures.others (λ some. absurd (omega (arith, some)))
    (λ a b some_a few_a some_b few_b other. known_others c.args.self.now f h ranks c.requires.known
    c.take_out-ends.ensures.kept a b some_a few_a some_b few_b (other_pair ranks a b c.if-ranks-ge2.true other))

pub returns-else-ranks-ge2-clause-known : goal.returns-else-ranks-ge2-clause-known
returns-else-ranks-ge2-clause-known g c =
    known_fewer c.args.self.now (forest_in c.args.arena.now c.args.first)
    (forest_in c.take_out-ends.new.self c.take_out-ends.result.1) c.args.ranks.now c.if-ranks-ge2.false
    c.requires.known c.take_out-ends.ensures.kept
