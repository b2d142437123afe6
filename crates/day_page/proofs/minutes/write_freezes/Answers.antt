use Rattle.day_page.specs.DayMinutes.{freeze_text}
use Rattle.day_page.proofs.Sheets.{own_then_others}
use Rattle.sheet_page.proofs.Pens.{later, renamed}
use Rattle.day_page.proofs.minutes.write_freezes.Goals as goal

pub returns : goal.returns
returns g c =
    renamed (own_then_others (freeze_text g.row.P c.args.calls) c.args.sheets.now _ _ c.own_apart.ensures.own
    c.own_apart.ensures.others)
    (later c.write_each.ensures c.write_each-2.ensures)
