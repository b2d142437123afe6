use Rattle.std.proofs.Common.{ap}
use Rattle.day_text.specs.Values.{DayTextList}
use Rattle.day_page.specs.DayJson.{json_with}
use Rattle.sheet_page.proofs.Pens.{renamed}
use Rattle.day_page.proofs.json.write_day.Goals as goal

pub returns : goal.returns
returns g c =
    renamed (ap (λ (w : DayTextList). json_with g.row.P w.history w.sheets c.args.end.now) c.day.view_is)
    c.write_day_of.ensures
