use Rattle.count_promise.specs.Lines.{lots_of}
use Rattle.count_promise.proofs.Items.{texts_step}
use Rattle.count_promise.proofs.lines.push_lots.Goals as goal

pub loop-row-preserved : goal.loop-row-preserved
loop-row-preserved c =
    texts_step lots_of c.args.rows.now c.loop-row.row-index c.row-item.result _ _ _ c.loop-row.invariant
    c.row-item.is c.loop-row-test.true
    c.in_ok-push_lots_of.ensures
