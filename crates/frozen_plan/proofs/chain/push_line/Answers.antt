use Rattle.std.proofs.Common.{◌+◌, ◌-◌, ◌++◌, ◌∷◌, [], ℕ, ap, ◌∙◌}
use Rattle.frozen_plan.specs.declared.plan_row.PlanRow.{PlanRow}
use Rattle.frozen_plan.proofs.ChainLemmas.{one_less, one_row}
use Rattle.frozen_plan.proofs.chain.push_line.Goals as goal

pub loop-i-preserved : goal.loop-i-preserved
loop-i-preserved c =
    let i = c.loop-i.i in
    let end = c.end_of-end.result in
    let line = c.args.line in
    let rows = c.loop-i.rows.items in
    let before = c.loop-i.invariant in
    let row : ℕ → PlanRow = λ k. record { depth = i + 1; candidate = k; ballots = line.count; skip = end - i } in
    let pushed = c.in_ok-push.ensures.items ∙ ap (λ (k : ℕ). rows ++ row k ∷ []) c.rank_at.ensures in
    record {
      rows =
          one_row c.args.ranks.now i end line.count line rows c.push.new.self.items before.left
          c.loop-i-test.true pushed ∙ before.rows;
      left = one_less c.args.ranks.now i end line before.left c.loop-i-test.true;
    }
