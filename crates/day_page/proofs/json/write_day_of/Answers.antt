use Rattle.std.proofs.Common.{ap, ℕ}
use Rattle.day_page.specs.DayJson.{freezes_json}
use Rattle.sheet_page.proofs.Pens.{later, renamed}
use Rattle.day_page.proofs.json.write_day_of.Goals as goal

pub returns : goal.returns
returns g c =
    let freezes = ap (λ (n : ℕ). freezes_json g.row.P n c.args.sheets.now) c.len-calls.ensures in
    later c.write_calls.ensures (later c.write_end.ensures (renamed freezes c.write_freezes.ensures))
