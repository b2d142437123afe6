use Rattle.std.proofs.Common.{arith}
use Rattle.day_page.specs.DayJson.{call_json}
use Rattle.sheet_page.proofs.Pens.{later, nothing}
use Rattle.day_page.proofs.Listed.{call_listed, calls_listed}
use Rattle.day_page.proofs.json.write_entries.Goals as goal

pub loop-i-init : goal.loop-i-init
loop-i-init g c = nothing _ _

pub loop-i-preserved : goal.loop-i-preserved
loop-i-preserved g c =
    call_listed (λ e. call_json e.0 e.1) c.args.history.now.items c.loop-i.i c.get.result.now c.get.ensures
    c.loop-i.invariant (later c.write_comma.ensures c.write_entry.ensures)

pub returns : goal.returns
returns g c =
    calls_listed (λ e. call_json e.0 e.1) c.args.history.now.items c.loop-i.i (omega arith) c.loop-i.invariant
