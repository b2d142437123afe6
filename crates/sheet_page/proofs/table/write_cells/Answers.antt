use Rattle.page_tree.specs.Print.{printed}
use Rattle.sheet_page.specs.RoundTable.{cell_at}
use Rattle.sheet_page.proofs.Pens.{nothing, place_more}
use Rattle.sheet_page.proofs.table.write_cells.Goals as goal

pub loop-i-init : goal.loop-i-init
loop-i-init g c = nothing _ _

pub loop-i-preserved : goal.loop-i-preserved
loop-i-preserved g c =
    place_more (λ k. printed (cell_at c.args.names g.row.P c.args.values.now c.args.entry k)) c.loop-i.i c.loop-i.invariant c.write_cell_at.ensures
