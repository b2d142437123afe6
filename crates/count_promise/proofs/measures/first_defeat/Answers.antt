use Rattle.std.proofs.Common.{◌∙◌, sym}
use Rattle.count_promise.specs.Left.{is_defeat_of}
use Rattle.count_promise.proofs.Items.{find_here, find_more}
use Rattle.count_promise.proofs.measures.first_defeat.Goals as goal

pub returns-then-is_defeat_of : goal.returns-then-is_defeat_of
returns-then-is_defeat_of g c =
    sym (find_here (is_defeat_of c.args.least) c.args.rows.now c.loop-row.row-index c.row-item.result
    c.loop-row-test.true c.loop-row.invariant
    c.row-item.is (sym c.is_defeat_of.ensures ∙ c.if-is_defeat_of.true))

pub loop-row-preserved : goal.loop-row-preserved
loop-row-preserved g c =
    find_more (is_defeat_of c.args.least) c.args.rows.now c.loop-row.row-index c.row-item.result
    c.loop-row-test.true c.loop-row.invariant
    c.row-item.is (sym c.is_defeat_of.ensures ∙ c.if-is_defeat_of.false)
