use Rattle.std.proofs.Common.{◌≡◌, ◌-◌, get_or, drop, take, ap, ◌∙◌}
use Rattle.frozen_plan.specs.declared.plan_row.PlanRow.{PlanRow}
use Rattle.warren_spread.proofs.SiblingLemmas.{cut}
use Rattle.warren_spread.proofs.pay.parted.Goals as goal

-- what stands past the end of some rows
abbrev none : PlanRow
none = record { depth = 0; candidate = 0; ballots = 0; skip = 0 }

pub returns : goal.returns
returns c =
    λ n are.
    let rows = c.args.rows.now in
    let skip = (get_or rows 0 none).skip in
    let whole = cut n rows none are c.requires.some in
    let front : c.split_at.result.0.now ≡ take (skip - 1) (drop 1 rows) =
    c.split_at.ensures.front ∙ ap (take (skip - 1)) c.behind_first.ensures in
    let back : c.split_at.result.1.now ≡ drop (skip - 1) (drop 1 rows) =
    c.split_at.ensures.back ∙ ap (drop (skip - 1)) c.behind_first.ensures in
    rw (front, back) whole.1
