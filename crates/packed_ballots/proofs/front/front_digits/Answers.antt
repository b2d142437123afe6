use Rattle.std.proofs.Common.{Fits, w64, ◌≡◌, ℕ, ◌+◌, ◌-◌, ◌*◌, ◌^◌, ◌%◌, ◌<◌, length, take, arith, subst, sym}
use Rattle.std.proofs.lemmas.List.{length-take, get_or-take}
use Rattle.packed_ballots.specs.Packed.{front_of}
use Rattle.packed_ballots.proofs.Digits.{front_fits, front_more}
use Rattle.packed_ballots.proofs.front.front_digits.Goals as goal

pub overflow_add-front : goal.overflow_add-front
overflow_add-front c =
    let ranks = c.args.ranks.now in
    let i = c.loop-rank.rank-index in
    let place = c.loop-rank.place in
    let before : (i < 8) × (i < length ranks) = (
      omega (arith, c.loop-rank-test.true, length-take c.min.result ranks, c.min.ensures),
      omega (arith, c.loop-rank-test.true, length-take c.min.result ranks, c.min.ensures),
    ) in
    let same = get_or-take c.min.result ranks i 0 (omega (arith, c.loop-rank-test.true, length-take c.min.result ranks)) in
    let more = front_more ranks i place c.loop-rank.invariant.place before.0 before.1 c.requires in
    let fits = front_fits ranks i place c.loop-rank.invariant.place before.0 before.1 c.requires in
    subst (λ (r : ℕ). Fits w64 (c.loop-rank.front + (r * 2 ^ (place - 8)) % 18446744073709551616)) (sym same)
    (omega (arith, more, fits, c.loop-rank.invariant.front))

pub loop-rank-preserved : goal.loop-rank-preserved
loop-rank-preserved c =
    let ranks = c.args.ranks.now in
    let i = c.loop-rank.rank-index in
    let place = c.loop-rank.place in
    let before : (i < 8) × (i < length ranks) = (
      omega (arith, c.loop-rank-test.true, length-take c.min.result ranks, c.min.ensures),
      omega (arith, c.loop-rank-test.true, length-take c.min.result ranks, c.min.ensures),
    ) in
    let same = get_or-take c.min.result ranks i 0 (omega (arith, c.loop-rank-test.true, length-take c.min.result ranks)) in
    let more = front_more ranks i place c.loop-rank.invariant.place before.0 before.1 c.requires in
    record {
      front =
          subst (λ (r : ℕ). c.loop-rank.front + (r * 2 ^ (place - 8)) % 18446744073709551616 ≡ front_of (take (i + 1) ranks))
          (sym same) (omega (arith, more, c.loop-rank.invariant.front));
      place = omega (arith, c.loop-rank.invariant.place, before.0);
    }
