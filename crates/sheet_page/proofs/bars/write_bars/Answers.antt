use Rattle.page_tree.specs.Print.{printed}
use Rattle.sheet_page.specs.Picture.{bar_at}
use Rattle.sheet_page.specs.RoundEnds.{settled}
use Rattle.sheet_page.proofs.Pens.{nothing, place_more}
use Rattle.sheet_page.proofs.bars.write_bars.Goals as goal

pub loop-p-init : goal.loop-p-init
loop-p-init g c = nothing _ _

pub loop-p-preserved : goal.loop-p-preserved
loop-p-preserved g c =
    place_more (λ p. printed (bar_at g.row.P c.args.values.now c.args.full (settled c.args.row.now c.args.behind.now) p)) c.loop-p.p
    c.loop-p.invariant c.write_bar_at.ensures
