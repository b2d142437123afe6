use Rattle.page_tree.specs.Print.{printed}
use Rattle.sheet_page.specs.Html.{part_at}
use Rattle.sheet_page.proofs.Pens.{nothing, place_more}
use Rattle.sheet_page.proofs.round_parts.write_round_parts.Goals as goal

pub loop-i-init : goal.loop-i-init
loop-i-init g c = nothing _ _

pub loop-i-preserved : goal.loop-i-preserved
loop-i-preserved g c =
    place_more (λ i. printed (part_at c.args.names g.row.P c.args.values.now c.args.full i)) c.loop-i.i c.loop-i.invariant c.write_part_at.ensures
