use Rattle.std.proofs.Common.{Some, Result, sym, subst}
use Rattle.byte_edge.specs.declared.failed.Failed.{Failed}
use Rattle.lane_sheet.proofs.Sheets.{written_as}
use Rattle.day_lines.specs.DayText.{IsDayText}
use Rattle.day_sheets.proofs.DaySheets.{day_text_of, rolls_of_all}
use Rattle.sheet_check.specs.Comparison.{Comparison, told}
use Rattle.sheet_check.proofs.Differences.{Tells, compared}
use Rattle.day_replay.proofs.comparing.first_difference.Goals as goal

pub write_in_lanes-requires-clause-rolls : goal.write_in_lanes-requires-clause-rolls
write_in_lanes-requires-clause-rolls g c κs within =
    let terms = c.args.terms.now in
    rolls_of_all terms.roll _ c.args.frozen.items c.args.rolls.now c.requires.rolls (sym c.requires.lots_of_all)

pub returns-in-Ok : goal.returns-in-Ok
returns-in-Ok g c =
    let terms = c.args.terms.now in
    compared (IsDayText terms c.args.due.now.history.now) c.args.text.now c.new-sink.result c.write_in_lanes.new.sink
    c.in_ok-write_in_lanes.field-0 c.difference_from_whole.result c.new-sink.ensures
    (written_as (λ (s : Comparison). Some (told s)) (λ (s : Comparison). s.faults) c.new-sink.result c.write_in_lanes.new.sink _ _
    c.in_ok-write_in_lanes.field-0
    (day_text_of terms c.args.due.now.history.now g.row.P _ c.args.frozen.items _ _ c.in_ok-plans.plans.items
    c.sheets_are_unique.ensures.orders c.requires.of_terms c.requires.frozen
    c.requires.rolls c.requires.freezes c.in_ok-plans.ensures.plans) c.in_ok-write_in_lanes.ensures)
    (subst (λ (r : Result (Unit {0}) Failed). Tells c.write_in_lanes.new.sink r c.difference_from_whole.result)
    (sym c.in-Ok.is) c.difference_from_whole.ensures)

pub returns-in-Err : goal.returns-in-Err
returns-in-Err g c =
    let terms = c.args.terms.now in
    compared (IsDayText terms c.args.due.now.history.now) c.args.text.now c.new-sink.result c.write_in_lanes.new.sink
    c.in_ok-write_in_lanes.field-0 (Some c.difference_from_front.result) c.new-sink.ensures
    (written_as (λ (s : Comparison). Some (told s)) (λ (s : Comparison). s.faults) c.new-sink.result c.write_in_lanes.new.sink _ _
    c.in_ok-write_in_lanes.field-0
    (day_text_of terms c.args.due.now.history.now g.row.P _ c.args.frozen.items _ _ c.in_ok-plans.plans.items
    c.sheets_are_unique.ensures.orders c.requires.of_terms c.requires.frozen
    c.requires.rolls c.requires.freezes c.in_ok-plans.ensures.plans) c.in_ok-write_in_lanes.ensures)
    (subst (λ (r : Result (Unit {0}) Failed). Tells c.write_in_lanes.new.sink r (Some c.difference_from_front.result))
    (sym c.in-Err.is) c.difference_from_front.ensures)
