use Rattle.std.proofs.Common.{◌∙◌, ap, sym, ℕ, take}
use Rattle.std.specs.Prelude.{max}
use Rattle.meek_rule.specs.Row.{Row}
use Rattle.sheet_page.specs.Picture.{greatest, full_of}
use Rattle.sheet_page.proofs.Peaks.{full_more}
use Rattle.sheet_page.proofs.widths.full_of.Goals as goal

pub loop-row-preserved : goal.loop-row-preserved
loop-row-preserved g c =
    let rows = c.args.rows.now in
    let i = c.loop-row.row-index in
    let row = c.row-item.result in
    let quota = c.units.ensures.value ∙ ap (λ (r : Row). r.quota) c.row.view_is in
    let votes = c.items.ensures ∙ ap (λ (r : Row). r.votes) c.row.view_is in
    let peak = c.larger.ensures ∙ ap (λ (q : ℕ). max q c.greatest.result) quota
    ∙ ap (λ (g : ℕ). max row.quota g) (c.greatest.ensures ∙ ap greatest votes) in
    c.larger-full.ensures ∙ ap (λ (m : ℕ). max m c.larger.result) c.loop-row.invariant
    ∙ ap (λ (x : ℕ). max (full_of (take i rows)) x) peak
    ∙ sym (full_more rows i row c.row-item.is c.loop-row-test.true)
