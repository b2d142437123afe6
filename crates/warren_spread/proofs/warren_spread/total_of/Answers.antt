use Rattle.std.proofs.Common.{◌≡◌, List, length, get_or, arith, ap, ◌∙◌}
use Rattle.frozen_plan.specs.Plan.{PlanRows, plan_ballots, all_ballots}
use Rattle.warren_spread.proofs.TallyLemmas.{ballots-next, no-ballots-left}
use Rattle.warren_spread.proofs.warren_spread.total_of.Goals as goal

pub overflow_add-total : goal.overflow_add-total
overflow_add-total c =
    let plans = c.items-plan-items.result.now in
    let i = c.loop-plan.plan-index in
    let this : c.total-total.result ≡ length (plan_ballots (get_or plans i c.plan-item.result).rows) =
    c.total-total.ensures ∙ ap (λ (plan : PlanRows). length (plan_ballots plan.rows)) c.plan-item.is in
    let all : length (all_ballots plans) ≡ length (all_ballots c.args.plans.now) =
    ap (λ (l : List PlanRows). length (all_ballots l)) c.items-plan-items.ensures in
    omega (arith, ballots-next plans i c.plan-item.result c.loop-plan-test.true, c.loop-plan.invariant, c.requires)

pub loop-plan-preserved : goal.loop-plan-preserved
loop-plan-preserved c =
    let plans = c.items-plan-items.result.now in
    let i = c.loop-plan.plan-index in
    let this : c.total-total.result ≡ length (plan_ballots (get_or plans i c.plan-item.result).rows) =
    c.total-total.ensures ∙ ap (λ (plan : PlanRows). length (plan_ballots plan.rows)) c.plan-item.is in
    omega (arith, ballots-next plans i c.plan-item.result c.loop-plan-test.true, c.loop-plan.invariant)

pub returns : goal.returns
returns c =
    let plans = c.items-plan-items.result.now in
    let all : length (all_ballots plans) ≡ length (all_ballots c.args.plans.now) =
    ap (λ (l : List PlanRows). length (all_ballots l)) c.items-plan-items.ensures in
    let none = ap length (no-ballots-left plans c.loop-plan.plan-index (omega (arith, c.loop-plan-test.false))) in
    omega (arith, c.loop-plan.invariant)
