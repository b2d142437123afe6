use Rattle.day_page.specs.DayMinutes.{batch_line}
use Rattle.sheet_page.proofs.Pens.{nothing, items_all}
use Rattle.day_page.proofs.Sheets.{value_more}
use Rattle.day_page.proofs.end_text.write_batches.Goals as goal

pub loop-batch-init : goal.loop-batch-init
loop-batch-init g c = nothing _ _

pub loop-batch-preserved : goal.loop-batch-preserved
loop-batch-preserved g c =
    value_more (batch_line) c.args.batches.now c.loop-batch.batch-index _
    c.loop-batch-test.true c.loop-batch.invariant c.write_batch.ensures

pub returns : goal.returns
returns g c =
    items_all (batch_line) c.args.batches.now c.loop-batch.batch-index
    c.loop-batch-test.false c.loop-batch.invariant
