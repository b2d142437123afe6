use Rattle.std.proofs.Common.{◌≡◌, length, arith, sum_by, take, get_or, ap, sym, ◌∙◌}
use Rattle.std.proofs.lemmas.List.{take_all}
use Rattle.std.proofs.lemmas.List.Sums.{sum_by_more_le}
use Rattle.frozen_plan.specs.Plan.{PlanRows, plan_ballots, all_ballots}
use Rattle.vote_spread.proofs.PlanLemmas.{length-all_ballots}
use Rattle.vote_spread.proofs.lanes.total_of.Goals as goal

pub overflow_add-total : goal.overflow_add-total
overflow_add-total c =
    let f : PlanRows → _ = λ plan. length (plan_ballots plan.rows) in
    let plans = c.items-plan-items.result.now in
    let i = c.loop-plan.plan-index in
    let all : length (all_ballots c.args.plans.now) ≡ sum_by f plans =
    length-all_ballots c.args.plans.now ∙ ap (sum_by f) (sym c.items-plan-items.ensures) in
    let more = sum_by_more_le f plans i c.plan-item.result c.loop-plan-test.true in
    let this : c.total-total.result ≡ f (get_or plans i c.plan-item.result) = c.total-total.ensures ∙ ap f c.plan-item.is in
    let so_far : c.loop-plan.total ≡ sum_by f (take i plans) = c.loop-plan.invariant in
    let few = c.requires in
    omega arith

pub returns : goal.returns
returns c =
    let f : PlanRows → _ = λ plan. length (plan_ballots plan.rows) in
    let plans = c.items-plan-items.result.now in
    c.loop-plan.invariant
    ∙ (ap (sum_by f)
    (take_all c.loop-plan.plan-index plans c.loop-plan-test.false ∙ c.items-plan-items.ensures)
    ∙ sym (length-all_ballots c.args.plans.now))
