use Rattle.std.proofs.Common.{List, [], replicate, arith, ℕ}
use Rattle.std.proofs.lemmas.List.{length-append}
use Rattle.ranking_trie.specs.Arena.{forest_in}
use Rattle.ranking_trie.specs.Bag.{bag}
use Rattle.ranking_trie.proofs.BagLemmas.{put_behind}
use Rattle.ranking_trie.proofs.FrontLemmas.{few_numbers, two_or_none, known_place, known_kept}
use Rattle.ranking_trie.proofs.fronts.Fronts.put.Goals as goal

pub put_from-first-requires : goal.put_from-first-requires
put_from-first-requires g c =
    let f = forest_in c.args.arena.now c.args.first in
    let ranks = c.args.ranks.now in
    let place = c.place-place.result in
    let two = two_or_none ranks place c.place-place.ensures.short c.if-place-ne0.true in
    record {
      apart = c.requires.apart;
      two = two;
      place =
          known_place c.args.self.now f ranks place c.requires.known c.requires.numbers two
          (c.place-place.ensures.known two) c.if-place-ne0.true;
      found = omega (arith, c.if-place-ne0.true);
      room = c.requires.room;
      few = omega (arith, c.requires.total, length-append (replicate {A = List ℕ} c.args.ends []) (bag f));
      rising = c.requires.rising;
      numbers = few_numbers ranks c.args.self.now.candidates c.requires.few c.requires.numbers;
      some = c.requires.some;
    }

pub returns-then-place-ne0-clause-bag : goal.returns-then-place-ne0-clause-bag
returns-then-place-ne0-clause-bag g c =
    put_behind (replicate c.args.ends []) (bag (forest_in c.args.arena.now c.args.first))
    (bag (forest_in c.put_from-first.new.self c.put_from-first.result)) (replicate c.args.count c.args.ranks.now)
    c.put_from-first.ensures.bag

pub returns-then-place-ne0-clause-known : goal.returns-then-place-ne0-clause-known
returns-then-place-ne0-clause-known g c =
    known_kept c.args.self.now (forest_in c.args.arena.now c.args.first)
    (forest_in c.put_from-first.new.self c.put_from-first.result) c.requires.known c.put_from-first.ensures.kept

pub put-ends-requires : goal.put-ends-requires
put-ends-requires g c = record {
  apart = c.requires.apart;
  room = c.requires.room;
  few = c.requires.total;
  rising = c.requires.rising;
  numbers = few_numbers c.args.ranks.now c.args.self.now.candidates c.requires.few c.requires.numbers;
  some = c.requires.some;
}

pub note-requires : goal.note-requires
note-requires g c = record {
  apart = c.put-ends.ensures.apart;
  rising = c.put-ends.ensures.rising;
  numbers = c.requires.numbers;
  few = c.requires.few;
  known =
      known_kept c.args.self.now (forest_in c.args.arena.now c.args.first)
      (forest_in c.put-ends.new.self c.put-ends.result.1) c.requires.known c.put-ends.ensures.kept;
}
