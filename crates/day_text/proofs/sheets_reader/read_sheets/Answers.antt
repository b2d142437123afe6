use Rattle.std.proofs.Common.{◌+◌, take, drop, get_or}
use Rattle.std.proofs.lemmas.Grind.{take_at_read}
use Rattle.day_text.proofs.Readings.{stop_later, split_at}
use Rattle.day_text.proofs.SheetTexts.{no_sheets, one_sheet_more}
use Rattle.day_text.proofs.sheets_reader.read_sheets.Goals as goal

pub returns-in-Err : goal.returns-in-Err
returns-in-Err g c =
    let at = c.loop-at.at in
    let freezes = c.args.freezes.now in
    stop_later c.in-Err.stop
    (λ none. no_sheets c.written_values_are_read.ensures.values g.row.P c.requires.places.0 c.requires.places.1 freezes
    (take at freezes) (drop (at + 1) freezes) _ (get_or freezes at 0) c.loop-at.sheets _ c.loop-at.invariant
    (split_at freezes at c.loop-at-test.true) none)
    c.in-Err.ensures

pub loop-at-preserved : goal.loop-at-preserved
loop-at-preserved g c =
    let at = c.loop-at.at in
    let freezes = c.args.freezes.now in
    one_sheet_more g.row.P (take at freezes) (take (at + 1) freezes) _ (get_or freezes at 0) c.loop-at.sheets _ _ _ _
    c.loop-at.invariant c.in-Ok.ensures (take_at_read freezes at 0 c.loop-at-test.true).1 c.in-Ok-push.ensures.ok
