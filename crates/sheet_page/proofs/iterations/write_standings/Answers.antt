use Rattle.page_tree.specs.Print.{printed}
use Rattle.sheet_page.specs.Iterations.{standing_at}
use Rattle.sheet_page.proofs.Pens.{nothing, place_more}
use Rattle.sheet_page.proofs.iterations.write_standings.Goals as goal

pub loop-p-init : goal.loop-p-init
loop-p-init g c = nothing _ _

pub loop-p-preserved : goal.loop-p-preserved
loop-p-preserved g c =
    place_more (λ i. printed (standing_at g.row.P c.args.row.now i)) c.loop-p.p c.loop-p.invariant
    c.write_standing_at.ensures
