use Rattle.page_tree.specs.Print.{printed}
use Rattle.sheet_page.specs.RoundTable.{candidate_row}
use Rattle.sheet_page.proofs.Pens.{nothing, place_more}
use Rattle.sheet_page.proofs.table.write_candidate_rows.Goals as goal

pub loop-p-init : goal.loop-p-init
loop-p-init g c = nothing _ _

pub loop-p-preserved : goal.loop-p-preserved
loop-p-preserved g c =
    place_more (λ k. printed ((candidate_row c.args.names g.row.P c.args.values.now) k)) c.loop-p.p c.loop-p.invariant
    c.write_candidate_row.ensures
