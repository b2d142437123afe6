use Rattle.std.proofs.Common.{◌+◌, ◌%◌, ◌<◌, length, get_or, arith, refl, ap, ◌∙◌}
use Rattle.std.proofs.lemmas.List.{get_or_default}
use Rattle.packed_ballots.specs.Packed.{rest_of}
use Rattle.packed_ballots.proofs.Bytes.{nothing}
use Rattle.packed_ballots.proofs.Found.{rest_numbers}
use Rattle.packed_ballots.proofs.find.place_of.Goals as goal

pub has_ranks-requires : goal.has_ranks-requires
has_ranks-requires c =
    let place = (get_or c.args.seats.now c.loop-seat.seat-index 0 + 18446744073709551615) % 18446744073709551616 in
    let line = get_or c.args.lines.now place nothing in
    record {
      own = rest_numbers 250 c.args.bytes.now line c.requires.packed.numbers;
      front = c.requires.packed.fronts place nothing (omega (arith, c.if-place-lines.false));
      ranks = c.requires.ranks;
      same = c.if-line-front.true ∙ c.requires.front;
    }

pub returns-then-has_ranks : goal.returns-then-has_ranks
returns-then-has_ranks c =
    let place = (get_or c.args.seats.now c.loop-seat.seat-index 0 + 18446744073709551615) % 18446744073709551616 in
    let lines = c.args.lines.now in
    let inside : place < length lines = omega (arith, c.if-place-lines.false) in
    record {
      inside = inside;
      same = λ d. ap (rest_of c.args.bytes.now 0) (get_or_default lines place d nothing inside)
          ∙ c.if-has_ranks.ensures refl;
    }
