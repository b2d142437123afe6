use Rattle.std.proofs.Common.{◌≡◌, ℕ, ◌+◌, ◌-◌, ◌<◌, ◌≤◌, length, get_or, drop, arith, ap, sym, ◌∙◌}
use Rattle.std.proofs.lemmas.List.{length-set, get_or_default}
use Rattle.std.proofs.lemmas.List.Elements.{All-get_or}
use Rattle.fixed_place.specs.Rounding.{scale, most, up}
use Rattle.meek_rule.specs.Rule.{Meek}
use Rattle.meek_rule.specs.Weights.{kept}
use Rattle.meek_rule.proofs.WeightLemmas.{gain_fits, gain_step, all_given}
use Rattle.meek_rule.proofs.flat_spread.give_line.Goals as goal

-- the vote stays within what there is room for
pub from_units-requires : goal.from_units-requires
from_units-requires g c =
    let s = scale g.row.P in
    let i = c.loop-rank.rank-index in
    let r = get_or c.args.ranks.now i 0 in
    let number : (1 ≤ r) × (r ≤ length c.args.tally.now) =
    All-get_or (λ (n : ℕ). (1 ≤ n) × (n ≤ length c.args.tally.now)) c.args.ranks.now i 0
    c.loop-rank-test.true c.requires.numbers in
    let inside : r - 1 < length c.args.tally.now = omega arith in
    let now : c.units.result ≡ get_or c.loop-rank.tally (r - 1) 0 = cc in
    let part : c.keep_part-kept.result ≡ kept s c.args.keeps.now c.loop-rank.weight r =
    c.keep_part-kept.ensures.kept
    ∙ ap (up s c.loop-rank.weight)
    (c.index-keeps-place.is ∙ sym (get_or_default c.args.keeps.now (r - 1) 0 _ (omega arith))) in
    let pos : 1 ≤ s = omega (arith, c.scale_of-weight.ensures.positive, c.scale_of-weight.ensures.value) in
    let fits =
    gain_fits Meek s c.args.keeps.now c.loop-rank.weight c.args.ranks.now i (r - 1 + 1) c.args.count _ _
    (most g.row.P) c.loop-rank-test.true (omega arith) pos c.requires.at_most_one
    (c.loop-rank.invariant.missing (r - 1) inside) (c.requires.room (r - 1) inside) in
    (omega arith, (c.requires.places, rw (now, part) fits))

-- nothing is left of the ballots
pub returns-then-weight-eq0-clause-given : goal.returns-then-weight-eq0-clause-given
returns-then-weight-eq0-clause-given g c =
    let s = scale g.row.P in
    let i = c.loop-rank.rank-index in
    let r = get_or c.args.ranks.now i 0 in
    let number : (1 ≤ r) × (r ≤ length c.args.tally.now) =
    All-get_or (λ (n : ℕ). (1 ≤ n) × (n ≤ length c.args.tally.now)) c.args.ranks.now i 0
    c.loop-rank-test.true c.requires.numbers in
    let inside : r - 1 < length c.loop-rank.tally = omega arith in
    let now : c.units.result ≡ get_or c.loop-rank.tally (r - 1) 0 = cc in
    let part : c.keep_part-kept.result ≡ kept s c.args.keeps.now c.loop-rank.weight r =
    c.keep_part-kept.ensures.kept
    ∙ ap (up s c.loop-rank.weight)
    (c.index-keeps-place.is ∙ sym (get_or_default c.args.keeps.now (r - 1) 0 _ (omega arith))) in
    let pos : 1 ≤ s = omega (arith, c.scale_of-weight.ensures.positive, c.scale_of-weight.ensures.value) in
    λ p below.
    let step =
    gain_step s c.args.keeps.now c.loop-rank.weight c.args.ranks.now c.loop-rank.tally i c.args.count p _
    c.loop-rank-test.true number.0 inside (c.loop-rank.invariant.missing p below) in
    rw (c.set.ensures, c.from_units.ensures, now, part) (all_given Meek s c.args.keeps.now
    (c.loop-rank.weight - kept s c.args.keeps.now c.loop-rank.weight r) (drop (i + 1) c.args.ranks.now)
    (p + 1) c.args.count _ _ pos (omega arith) step)

pub loop-rank-preserved : goal.loop-rank-preserved
loop-rank-preserved g c =
    let s = scale g.row.P in
    let i = c.loop-rank.rank-index in
    let r = get_or c.args.ranks.now i 0 in
    let number : (1 ≤ r) × (r ≤ length c.args.tally.now) =
    All-get_or (λ (n : ℕ). (1 ≤ n) × (n ≤ length c.args.tally.now)) c.args.ranks.now i 0
    c.loop-rank-test.true c.requires.numbers in
    let inside : r - 1 < length c.loop-rank.tally = omega arith in
    let now : c.units.result ≡ get_or c.loop-rank.tally (r - 1) 0 = cc in
    let part : c.keep_part-kept.result ≡ kept s c.args.keeps.now c.loop-rank.weight r =
    c.keep_part-kept.ensures.kept
    ∙ ap (up s c.loop-rank.weight)
    (c.index-keeps-place.is ∙ sym (get_or_default c.args.keeps.now (r - 1) 0 _ (omega arith))) in
    record {
      light = omega arith;
      same_length = ap length c.set.ensures ∙ (length-set _ _ _ ∙ c.loop-rank.invariant.same_length);
      missing =
          λ p below.
          rw (c.set.ensures, c.from_units.ensures, now, part)
          (gain_step s c.args.keeps.now c.loop-rank.weight c.args.ranks.now c.loop-rank.tally i c.args.count p
          _ c.loop-rank-test.true number.0 inside (c.loop-rank.invariant.missing p below));
    }
