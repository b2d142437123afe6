use Rattle.page_tree.specs.Print.{printed}
use Rattle.sheet_page.specs.Promised.{lot_at}
use Rattle.sheet_page.proofs.Pens.{nothing, place_more}
use Rattle.sheet_page.proofs.promised.write_lots_in.Goals as goal

pub loop-p-init : goal.loop-p-init
loop-p-init g c = nothing _ _

pub loop-p-preserved : goal.loop-p-preserved
loop-p-preserved g c =
    place_more (λ p. printed (lot_at c.args.values.now c.args.row.now p)) c.loop-p.p c.loop-p.invariant
    c.write_lot_at.ensures
