use Rattle.std.proofs.Common.{◌∙◌, ap, subst, ℕ, List}
use Rattle.piece_text.specs.Writing.{Writes}
use Rattle.day_text.specs.Values.{DayTextList}
use Rattle.day_page.specs.DayMinutes.{minutes_with}
use Rattle.day_page.proofs.minutes.write_day_minutes.Goals as goal

pub returns : goal.returns
returns g c =
    let v = c.args.day.now in
    subst
    (λ (l : List ℕ). Writes g.K.Sink.written g.K.Sink.faults c.args.sink.now c.write_minutes_of.new.sink l
    c.write_minutes_of.result)
    (ap (λ (w : DayTextList). minutes_with g.row.P w.history w.sheets c.args.end.now) c.day.view_is
    ∙ ap (minutes_with g.row.P v.history v.sheets) c.requires.end) c.write_minutes_of.ensures
