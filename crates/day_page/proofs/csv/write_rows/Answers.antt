use Rattle.std.proofs.Common.{arith}
use Rattle.csv_text.specs.Csv.{record_text}
use Rattle.day_page.specs.DayCsv.{entry_record}
use Rattle.sheet_page.proofs.Pens.{nothing}
use Rattle.day_page.proofs.Calls.{call_more, calls_all}
use Rattle.day_page.proofs.csv.write_rows.Goals as goal

pub loop-i-init : goal.loop-i-init
loop-i-init g c = nothing _ _

pub loop-i-preserved : goal.loop-i-preserved
loop-i-preserved g c =
    call_more (λ e. record_text (entry_record e.0 e.1)) c.args.history.now.items c.loop-i.i c.get.result.now
    c.get.ensures c.loop-i.invariant c.write_entry.ensures

pub returns : goal.returns
returns g c =
    calls_all (λ e. record_text (entry_record e.0 e.1)) c.args.history.now.items c.loop-i.i (omega arith)
    c.loop-i.invariant
