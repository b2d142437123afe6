use Rattle.std.proofs.Common.{◌∙◌, ap, sym, ℕ, take}
use Rattle.std.specs.Prelude.{max}
use Rattle.sheet_minutes.specs.Table.{widest}
use Rattle.sheet_minutes.proofs.Measures.{widest_more}
use Rattle.sheet_minutes.proofs.widths.widest.Goals as goal

pub loop-amount-preserved : goal.loop-amount-preserved
loop-amount-preserved g c =
    let xs = c.args.amounts.now in
    let i = c.loop-amount.amount-index in
    c.larger-most.ensures ∙ ap (λ (m : ℕ). max m c.columns.result) c.loop-amount.invariant
    ∙ ap (λ (x : ℕ). max (widest g.row.P (take i xs)) x) c.columns.ensures
    ∙ sym (widest_more g.row.P xs i c.amount-item.result c.amount-item.is c.loop-amount-test.true)
