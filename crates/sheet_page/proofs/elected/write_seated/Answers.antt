use Rattle.page_tree.specs.Print.{printed}
use Rattle.sheet_page.specs.Html.{seated_item}
use Rattle.sheet_page.proofs.Pens.{nothing, place_more}
use Rattle.sheet_page.proofs.elected.write_seated.Goals as goal

pub loop-p-init : goal.loop-p-init
loop-p-init g c = nothing _ _

pub loop-p-preserved : goal.loop-p-preserved
loop-p-preserved g c =
    place_more (λ p. printed ((seated_item c.args.values.now) p)) c.loop-p.p c.loop-p.invariant
    c.write_seated_item.ensures
