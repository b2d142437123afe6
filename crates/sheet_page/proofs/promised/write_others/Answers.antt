use Rattle.page_tree.specs.Print.{printed}
use Rattle.sheet_page.specs.Promised.{other_at}
use Rattle.sheet_page.proofs.Pens.{nothing, place_more}
use Rattle.sheet_page.proofs.promised.write_others.Goals as goal

pub loop-q-init : goal.loop-q-init
loop-q-init g c = nothing _ _

pub loop-q-preserved : goal.loop-q-preserved
loop-q-preserved g c =
    place_more (λ q. printed (other_at c.args.values.now c.args.row.now c.args.group c.args.p q)) c.loop-q.q
    c.loop-q.invariant c.write_other_at.ensures
