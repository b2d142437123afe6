use Rattle.std.proofs.Common.{◌∙◌, ap, sym, Bool}
use Rattle.std.specs.Prelude.{if◌then◌else◌}
use Rattle.page_tree.specs.Print.{printed}
use Rattle.page_tree.specs.Trees.{Nothing}
use Rattle.sheet_page.specs.Picture.{bar}
use Rattle.sheet_page.specs.RoundEnds.{settled}
use Rattle.sheet_page.proofs.Pens.{nothing, renamed}
use Rattle.sheet_page.proofs.bars.write_bar_at.Goals as goal

pub returns-then-has_bar : goal.returns-then-has_bar
returns-then-has_bar g c =
    let row = settled c.args.row.now c.args.behind.now in
    let has = sym c.has_bar.ensures ∙ c.if-has_bar.true in
    renamed (sym (ap (λ (b : Bool). printed (if b then bar g.row.P c.args.values.now c.args.full row c.args.p else Nothing)) has)) c.write_bar.ensures

pub returns-else-has_bar : goal.returns-else-has_bar
returns-else-has_bar g c =
    let row = settled c.args.row.now c.args.behind.now in
    let has = sym c.has_bar.ensures ∙ c.if-has_bar.false in
    renamed (sym (ap (λ (b : Bool). printed (if b then bar g.row.P c.args.values.now c.args.full row c.args.p else Nothing)) has)) (nothing _ _)
