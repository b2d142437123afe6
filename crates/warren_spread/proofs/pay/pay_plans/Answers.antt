use Rattle.std.proofs.Common.{◌≡◌, ℕ, ◌+◌, ◌<◌, List, length, get_or, drop, arith, ap, sym, subst, ◌∙◌}
use Rattle.std.proofs.lemmas.List.Elements.{All-get_or}
use Rattle.frozen_plan.specs.Plan.{PlanRows, plan_ballots, all_ballots}
use Rattle.warren_spread.specs.Paid.{paid, row_ballots, AreSiblings}
use Rattle.warren_spread.proofs.TallyLemmas.{paid-next, no-ballots-left}
use Rattle.warren_spread.proofs.pay.pay_plans.Goals as goal

pub pay-requires : goal.pay-requires
pay-requires c =
    let s = c.args.vote in
    let prices = c.args.prices.now in
    let plan = c.plan-item.result in
    let inv = c.loop-plan.invariant in
    let of : plan.candidates ≡ length c.args.sums.now =
    ap (λ (p : PlanRows). p.candidates) c.plan-item.is
    ∙ All-get_or (λ (p : PlanRows). p.candidates ≡ length c.args.sums.now) c.args.plans.now
    c.loop-plan.plan-index plan c.loop-plan-test.true c.requires.plans in
    record {
      rows =
          subst (λ (n : ℕ). AreSiblings n c.behind_root.result.now) (of ∙ sym inv.same_length)
          c.behind_root.ensures.siblings;
      price_of_each = c.requires.price_of_each ∙ sym inv.same_length;
      room =
          λ p lt.
          let inside : p < length c.args.sums.now = omega (arith, inv.same_length) in
          let whole :
          paid prices s (row_ballots c.behind_root.result.now) (p + 1)
          ≡ paid prices s (plan_ballots (get_or c.args.plans.now c.loop-plan.plan-index plan).rows)
          (p + 1) =
          c.behind_root.ensures.ballots s (p + 1) prices
          ∙ ap (λ (pl : PlanRows). paid prices s (plan_ballots pl.rows) (p + 1)) c.plan-item.is in
          omega (
            arith,
            paid-next prices s (p + 1) c.args.plans.now c.loop-plan.plan-index plan c.loop-plan-test.true,
            inv.missing p inside,
            c.requires.room p inside,
          );
    }

pub loop-plan-preserved : goal.loop-plan-preserved
loop-plan-preserved c =
    let s = c.args.vote in
    let prices = c.args.prices.now in
    let plan = c.plan-item.result in
    let inv = c.loop-plan.invariant in
    record {
      same_length = c.pay.ensures.same_length ∙ inv.same_length;
      missing =
          λ p inside.
          let whole :
          paid prices s (row_ballots c.behind_root.result.now) (p + 1)
          ≡ paid prices s (plan_ballots (get_or c.args.plans.now c.loop-plan.plan-index plan).rows)
          (p + 1) =
          (c.behind_root.ensures.ballots s (p + 1) prices
          ∙ ap (λ (pl : PlanRows). paid prices s (plan_ballots pl.rows) (p + 1)) c.plan-item.is) in
          let gave = c.pay.ensures.paid p (omega (arith, inv.same_length)) in
          omega (
            arith,
            paid-next prices s (p + 1) c.args.plans.now c.loop-plan.plan-index plan c.loop-plan-test.true,
            inv.missing p inside,
          );
    }

pub returns-clause-paid : goal.returns-clause-paid
returns-clause-paid c =
    λ p inside.
    let s = c.args.vote in
    let prices = c.args.prices.now in
    let none : paid prices s (all_ballots (drop c.loop-plan.plan-index c.args.plans.now)) (p + 1) ≡ 0 =
    ap (λ (l : List (List ℕ)). paid prices s l (p + 1))
    (no-ballots-left c.args.plans.now c.loop-plan.plan-index c.loop-plan-test.false) in
    omega (arith, c.loop-plan.invariant.missing p inside)
