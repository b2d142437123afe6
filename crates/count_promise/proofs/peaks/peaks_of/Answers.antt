use Rattle.std.proofs.Common.{◌∙◌, ℕ, ap, sym}
use Rattle.std.specs.Prelude.{max}
use Rattle.meek_rule.specs.Row.{Row}
use Rattle.count_promise.specs.Left.{lack_at, left_at_most, surplus_at}
use Rattle.count_promise.proofs.Items.{greatest_more}
use Rattle.count_promise.proofs.peaks.peaks_of.Goals as goal

pub loop-row-preserved : goal.loop-row-preserved
loop-row-preserved g c =
    let rows = c.args.rows.now in
    let i = c.loop-row.row-index in
    let row = c.row-item.result in
    record {
      surplus =
          c.with-peaks.ensures.surplus ∙ (ap (λ (m : ℕ). max m (surplus_at row.step row)) c.loop-row.invariant.surplus
          ∙ sym (greatest_more (λ (r : Row). surplus_at r.step r) rows i row c.row-item.is c.loop-row-test.true));
      lack =
          c.with-peaks.ensures.lack ∙ (ap (λ (m : ℕ). max m (lack_at row.step row)) c.loop-row.invariant.lack
          ∙ sym (greatest_more (λ (r : Row). lack_at r.step r) rows i row c.row-item.is c.loop-row-test.true));
      left =
          c.with-peaks.ensures.left ∙ (ap (λ (m : ℕ). max m (left_at_most row)) c.loop-row.invariant.left
          ∙ sym (greatest_more left_at_most rows i row c.row-item.is c.loop-row-test.true));
      few_lack = c.with-peaks.ensures.few_lack;
      few_left = c.with-peaks.ensures.few_left;
    }
