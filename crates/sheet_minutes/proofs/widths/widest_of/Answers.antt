use Rattle.std.proofs.Common.{◌∙◌, ap, sym, ℕ, take}
use Rattle.std.specs.Prelude.{max}
use Rattle.sheet_minutes.specs.Table.{widest_of}
use Rattle.sheet_minutes.proofs.Measures.{widest_of_more}
use Rattle.sheet_minutes.proofs.widths.widest_of.Goals as goal

pub loop-row-preserved : goal.loop-row-preserved
loop-row-preserved g c =
    let rows = c.args.rows.now in
    let i = c.loop-row.row-index in
    c.larger-most.ensures ∙ ap (λ (m : ℕ). max m c.widest_in.result) c.loop-row.invariant
    ∙ ap (λ (x : ℕ). max (widest_of g.row.P c.args.ballots (take i rows)) x) c.widest_in.ensures
    ∙ sym (widest_of_more g.row.P c.args.ballots rows i c.row-item.result c.row-item.is c.loop-row-test.true)
