use Rattle.std.proofs.Common.{All, ◌≡◌, map, sym, ap, ◌∙◌, subst}
use Rattle.day_sheets.proofs.DaySheets.{day_text_of, rolls_of_all, roll_of, place_of}
use Rattle.lane_sheet.proofs.Sheets.{written_as}
use Rattle.meek_cli.proofs.day_counting.count_day.Goals as goal

pub returns : goal.returns
returns g c =
    let terms = c.args.terms.now in
    written_as g.K.Sink.written g.K.Sink.faults c.args.sink.now c.write_in_lanes.new.sink _ _ c.in_ok-wrote.wrote
    (day_text_of terms c.args.history.now g.row.P _ c.args.versions _ _ c.in_ok-plans.plans.items
    c.sheets_are_unique.ensures.orders c.requires.of_terms c.requires.frozen
    (c.as_slice.ensures.value ∙ (c.in_ok-rolls.ensures ∙ ap (map (roll_of terms.roll)) c.items.ensures))
    (c.as_slice-2.ensures.value ∙ (c.in_ok-places.ensures ∙ ap (map place_of) c.items-2.ensures))
    c.in_ok-plans.ensures.plans) c.in_ok-wrote.ensures

pub write_in_lanes-requires-clause-rolls : goal.write_in_lanes-requires-clause-rolls
write_in_lanes-requires-clause-rolls g c κs within =
    let terms = c.args.terms.now in
    rolls_of_all terms.roll _ c.args.versions c.as_slice.result.now
    (c.as_slice.ensures.value ∙ (c.in_ok-rolls.ensures ∙ ap (map (roll_of terms.roll)) c.items.ensures))
    (sym c.requires.lots_of_all)
