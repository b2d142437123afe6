use Rattle.std.proofs.Common.{arith}
use Rattle.day_page.specs.DayJson.{freeze_json}
use Rattle.sheet_page.proofs.Pens.{later, nothing}
use Rattle.day_page.proofs.Listed.{listed_all, listed_item}
use Rattle.day_page.proofs.json.write_each.Goals as goal

pub loop-i-init : goal.loop-i-init
loop-i-init g c = nothing _ _

pub loop-i-preserved : goal.loop-i-preserved
loop-i-preserved g c =
    listed_item (freeze_json g.row.P c.args.calls) c.args.sheets.now c.loop-i.i c.index-sheets-i.result
    c.index-sheets-i.is (omega arith) c.loop-i.invariant (later c.write_comma.ensures c.write_freeze.ensures)

pub returns : goal.returns
returns g c =
    listed_all (freeze_json g.row.P c.args.calls) c.args.sheets.now c.loop-i.i (omega arith) c.loop-i.invariant
