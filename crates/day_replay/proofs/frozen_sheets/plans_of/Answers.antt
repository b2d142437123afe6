use Rattle.std.proofs.Common.{◌≡◌, [], sym, ◌∙◌, subst, All, arith, ℕ}
use Rattle.std.specs.Vec.Iter.{into_iter_items}
use Rattle.std.proofs.lemmas.List.{nil_from_length}
use Rattle.frozen_plan.specs.Plan.{PlanRows}
use Rattle.day_sheets.proofs.FrozenPlans.{taken_more, taken_all, of_next}
use Rattle.day_replay.proofs.frozen_sheets.plans_of.Goals as goal

pub loop-version-preserved : goal.loop-version-preserved
loop-version-preserved c =
    let here =
    of_next c.args.candidates c.args.frozen.items c.loop-version.plans.items _ (into_iter_items c.next.new.self)
    c.in-Some.version c.loop-version.invariant c.in-Some.ensures.steps.0 in
    let few = c.into_plans.ensures.few in
    taken_more c.args.candidates c.args.frozen.items c.loop-version.plans.items c.push.new.self.items _
    (into_iter_items c.next.new.self) c.in-Some.version c.into_plans.result c.loop-version.invariant
    c.in-Some.ensures.steps.0 c.in_ok-push.ensures.items c.into_plans.ensures.plans (record {
      candidates_are =
          subst (λ (n : ℕ). All (λ (p : PlanRows). p.candidates ≡ n) c.into_plans.result) here
          c.into_plans.ensures.candidates;
      few_ballots = omega (arith, few);
    })

pub returns-clause-plans : goal.returns-clause-plans
returns-clause-plans c =
    let none : into_iter_items c.loop-version.version-iterator ≡ [] =
    nil_from_length (into_iter_items c.loop-version.version-iterator)
    (sym c.loop-version.version-iterator.rest.ok.0 ∙ c.in-None.ensures.steps.0) in
    taken_all c.args.candidates c.args.frozen.items c.loop-version.plans.items
    (into_iter_items c.loop-version.version-iterator) c.loop-version.invariant none

pub returns-clause-counted : goal.returns-clause-counted
returns-clause-counted c = c.loop-version.invariant.each
