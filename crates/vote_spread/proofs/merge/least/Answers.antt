use Rattle.std.proofs.Common.{◌≡◌, ℕ, ◌+◌, ◌<◌, List, [], ◌∷◌, ◌++◌, length, take, arith, ap, sym, subst, ◌∙◌}
use Rattle.std.proofs.lemmas.List.{take_more}
use Rattle.frozen_plan.specs.declared.plan_row.PlanRow.{PlanRow}
use Rattle.vote_spread.proofs.FirstLemmas.{IsFirst, first-none, first-more}
use Rattle.vote_spread.proofs.merge.least.Goals as goal

pub loop-part-init : goal.loop-part-init
loop-part-init c = first-none

pub loop-part-preserved : goal.loop-part-preserved
loop-part-preserved c =
    let parts = c.args.parts.now in
    let i : ℕ = c.loop-part.part-index in
    let rows = c.part-item.result in
    let inside : i < length parts = omega arith in
    let more : take (i + 1) parts ≡ take i parts ++ rows ∷ [] =
    take_more parts i rows inside
    ∙ ap (λ (r : List PlanRow). take i parts ++ r ∷ []) (sym c.part-item.is) in
    subst (IsFirst c.lesser-least.result) (sym more)
    (first-more c.lesser-least.result c.loop-part.least c.head.result (take i parts) rows
    c.loop-part.invariant c.head.ensures.some c.head.ensures.none c.lesser-least.ensures.either
    c.lesser-least.ensures.none)
