use Rattle.std.specs.List.{flat_map}
use Rattle.std.proofs.Common.{rules, ap, ℕ}
use Rattle.day_page.specs.DayMinutes.{freeze_text}
use Rattle.day_page.specs.Lists.{own_first}
use Rattle.sheet_page.proofs.Pens.{later, ended, renamed}
use Rattle.day_page.proofs.minutes.write_minutes_of.Goals as goal

pub returns : goal.returns
returns g c =
    let sheets = c.args.sheets.now in
    let freezes = ap (λ (n : ℕ). flat_map (freeze_text g.row.P n) (own_first sheets)) c.len-calls.ensures in
    ended c.new-pen.ensures.before c.new-pen.ensures.well
    (later c.write_calls.ensures
    (later c.write_end.ensures (renamed freezes c.write_freezes.ensures))) (search rules)
    c.end.ensures.done
