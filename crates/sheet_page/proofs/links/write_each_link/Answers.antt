use Rattle.page_tree.specs.Print.{printed}
use Rattle.sheet_page.specs.Links.{link_at}
use Rattle.sheet_page.proofs.Pens.{nothing, place_more}
use Rattle.sheet_page.proofs.links.write_each_link.Goals as goal

pub loop-i-init : goal.loop-i-init
loop-i-init g c = nothing _ _

pub loop-i-preserved : goal.loop-i-preserved
loop-i-preserved g c =
    place_more (λ p. printed ((link_at c.args.names c.args.values.now) p)) c.loop-i.i c.loop-i.invariant
    c.write_link_at.ensures
