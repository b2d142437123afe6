use Rattle.std.proofs.Common.{◌≡◌, ℕ, ◌+◌, ◌<◌, List, length, get_or, arith, ap, sym, subst, ◌∙◌}
use Rattle.std.specs.List.{All}
use Rattle.fixed_place.specs.Rounding.{scale, most}
use Rattle.fixed_place.proofs.RoundingLemmas.{scale_pos, most_votes}
use Rattle.meek_rule.proofs.RuleLemmas.{most_bound}
use Rattle.frozen_plan.specs.Plan.{PlanRows, all_ballots}
use Rattle.warren_spread.specs.Paid.{paid}
use Rattle.warren_spread.proofs.TallyLemmas.{paid_fits, votes_of_sums}
use Rattle.warren_spread.proofs.warren_spread.distribute.Goals as goal

pub pay_plans-requires : goal.pay_plans-requires
pay_plans-requires g c =
    let s = scale g.row.P in
    let prices = c.args.prices.now in
    let same : length c.args.sums.now ≡ length c.clear.new.sums = sym c.clear.ensures.same_length in
    record {
      plans = subst (λ (n : ℕ). All (λ (plan : PlanRows). plan.candidates ≡ n) c.args.plans.now) same c.requires.plans;
      price_of_each = c.requires.prices_of_all ∙ same;
      room =
          λ p lt.
          let zero = c.clear.ensures.zero p (omega arith) in
          let fits =
          paid_fits s (most g.row.P) prices (all_ballots c.args.plans.now) (p + 1) (scale_pos g.row.P)
          (most_votes g.row.P) c.requires.at_most_one c.requires.few in
          let whole :
          paid prices c.scale_of.result (all_ballots c.args.plans.now) (p + 1)
          ≡ paid prices s (all_ballots c.args.plans.now) (p + 1) =
          ap (λ (w : ℕ). paid prices w (all_ballots c.args.plans.now) (p + 1)) c.scale_of.ensures.value in
          omega (arith, zero, fits, most_bound g.row.P c.requires.places.1);
    }

-- what a candidate is paid
sum_is :
    (s one : ℕ) (prices : List ℕ) (ballots : List (List ℕ)) (cleared sums : List ℕ) (p : ℕ) → one ≡ s
    → get_or cleared p 0 ≡ 0
    → get_or sums p 0 ≡ get_or cleared p 0 + paid prices one ballots (p + 1)
    → get_or sums p 0 ≡ paid prices s ballots (p + 1)
sum_is s one prices ballots cleared sums p same zero gave =
    let whole : paid prices one ballots (p + 1) ≡ paid prices s ballots (p + 1) =
    ap (λ (w : ℕ). paid prices w ballots (p + 1)) same in
    omega arith

pub from_units-requires : goal.from_units-requires
from_units-requires g c =
    let s = scale g.row.P in
    let prices = c.args.prices.now in
    let p = c.loop-p.p in
    let inside : p < length c.args.sums.now =
    omega (arith, c.loop-p-test.true, c.len-p-end.ensures.value, c.requires.votes_of_all) in
    let is =
    sum_is s c.scale_of.result prices (all_ballots c.args.plans.now) c.clear.new.sums c.pay_plans.new.sums
    p c.scale_of.ensures.value (c.clear.ensures.zero p inside)
    (c.pay_plans.ensures.paid p (omega (arith, c.clear.ensures.same_length))) in
    let fits =
    paid_fits s (most g.row.P) prices (all_ballots c.args.plans.now) (p + 1) (scale_pos g.row.P)
    (most_votes g.row.P) c.requires.at_most_one c.requires.few in
    (omega arith, (c.requires.places, omega (arith, is, fits)))

pub returns-clause-votes : goal.returns-clause-votes
returns-clause-votes g c =
    let s = scale g.row.P in
    let prices = c.args.prices.now in
    votes_of_sums s prices (all_ballots c.args.plans.now) c.loop-p.tally (length c.args.sums.now)
    (c.loop-p.invariant.same_length ∙ c.requires.votes_of_all)
    (λ p inside.
    c.loop-p.invariant.so_far p (omega (
      arith,
      c.loop-p-test.false,
      c.len-p-end.ensures.value,
      c.requires.votes_of_all,
      c.loop-p.invariant.same_length,
    ))
    ∙ sum_is s c.scale_of.result prices (all_ballots c.args.plans.now) c.clear.new.sums c.pay_plans.new.sums p
    c.scale_of.ensures.value (c.clear.ensures.zero p inside)
    (c.pay_plans.ensures.paid p (omega (arith, c.clear.ensures.same_length))))
