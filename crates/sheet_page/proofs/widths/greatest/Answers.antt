use Rattle.std.proofs.Common.{◌∙◌, ap, sym, ℕ, take}
use Rattle.std.specs.Prelude.{max}
use Rattle.sheet_page.specs.Picture.{greatest}
use Rattle.sheet_page.proofs.Peaks.{greatest_more}
use Rattle.sheet_page.proofs.widths.greatest.Goals as goal

pub loop-amount-preserved : goal.loop-amount-preserved
loop-amount-preserved g c =
    let xs = c.args.amounts.now in
    let i = c.loop-amount.amount-index in
    c.larger-most.ensures ∙ ap (λ (m : ℕ). max m c.units.result) c.loop-amount.invariant
    ∙ ap (λ (x : ℕ). max (greatest (take i xs)) x) c.units.ensures.value
    ∙ sym (greatest_more xs i c.amount-item.result c.amount-item.is c.loop-amount-test.true)
