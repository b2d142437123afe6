use Rattle.std.proofs.Common.{◌≡◌, ◌<◌, ◌+◌, ℕ, List, [], ◌∷◌, ◌++◌, length, map, take, drop, ap, sym, subst, ◌∙◌}
use Rattle.std.specs.List.{All}
use Rattle.std.proofs.lemmas.List.{map-append, take_more}
use Rattle.std.proofs.lemmas.List.Elements.{All-append, All-cons, All-nil}
use Rattle.frozen_plan.specs.declared.plan_row.PlanRow.{PlanRow}
use Rattle.frozen_plan.specs.Plan.{PlanRows, IsPlan}
use Rattle.vote_spread.proofs.pack.parts_of.Goals as goal

pub loop-plan-preserved : goal.loop-plan-preserved
loop-plan-preserved c =
    let P : PlanRows → Type 0 = λ plan. IsPlan plan.candidates plan.rows in
    let low : PlanRows → List PlanRow = λ plan. drop 1 plan.rows in
    let plans = c.args.plans.now in
    let i : ℕ = c.loop-plan.plan-index in
    let x = c.plan-item.result in
    let inside : i < length plans = c.loop-plan-test.true in
    let more : take (i + 1) plans ≡ take i plans ++ x ∷ [] =
    take_more plans i x inside ∙ ap (λ (p : PlanRows). take i plans ++ p ∷ []) (sym c.plan-item.is) in
    let part : c.new.result ≡ low x = c.new.ensures ∙ (c.behind_first.ensures ∙ ap (drop 1) c.rows.ensures.rows) in
    record {
      parts =
          c.in_ok-push.ensures.items
          ∙ (ap (λ (l : List (List PlanRow)). l ++ c.new.result ∷ []) c.loop-plan.invariant.parts
          ∙ (ap (λ (r : List PlanRow). map low (take i plans) ++ r ∷ []) part
          ∙ (sym (map-append low (take i plans) (x ∷ [])) ∙ ap (map low) (sym more))));
      plans =
          subst (All P) (sym more) (All-append P (take i plans) (x ∷ []) c.loop-plan.invariant.plans
          (All-cons P x [] c.rows.ensures.plan (All-nil P)));
    }
