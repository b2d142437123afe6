use Rattle.std.proofs.Common.{rules, ap, [], ◌∷◌, ◌++◌}
use Rattle.day_text.specs.End.{DayEndList}
use Rattle.day_page.specs.DayJson.{json_with}
use Rattle.sheet_page.proofs.Pens.{later, ended, renamed}
use Rattle.day_page.proofs.json.write_day_json.Goals as goal

pub returns : goal.returns
returns g c =
    let v = c.args.day.now in
    let day = ap (λ (e : DayEndList). json_with g.row.P v.history v.sheets e ++ 10 ∷ []) c.requires.end in
    ended c.new-pen.ensures.before c.new-pen.ensures.well
    (renamed day (later c.write_day.ensures c.piece.ensures)) (search rules) c.end.ensures.done
