use Rattle.std.proofs.Common.{ap, List, map}
use Rattle.day_text.specs.Values.{FrozenSheet}
use Rattle.day_page.specs.DayJson.{freeze_json, listed}
use Rattle.sheet_page.proofs.Pens.{later, renamed}
use Rattle.day_page.proofs.json.write_freezes.Goals as goal

pub returns : goal.returns
returns g c =
    let sheets = ap (λ (l : List FrozenSheet). listed (map (freeze_json g.row.P c.args.calls) l)) c.items.ensures in
    later c.piece.ensures (later (renamed sheets c.write_each.ensures) c.piece-2.ensures)
