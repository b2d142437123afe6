use Rattle.std.proofs.Common.{ℕ, List, length, ◌==◌, ◌∙◌, ap}
use Rattle.day_text.proofs.Cuts.{false-ne_true}
use Rattle.day_text.proofs.Readings.{stop_later, no_calls, no_day_sheets, more_behind}
use Rattle.day_text.proofs.reading.read_day_text.Goals as goal

pub returns-in-Err-read_sheets : goal.returns-in-Err-read_sheets
returns-in-Err-read_sheets g c =
    stop_later c.in-Err-read_sheets.stop
    (no_day_sheets g.row.P c.args.bytes.now _ _ _ c.in-Ok.ensures
    (c.as_slice.ensures.value ∙ c.in-Ok-freeze_lines.ensures.places)) c.in-Err-read_sheets.ensures

pub returns-then-not-is_empty : goal.returns-then-not-is_empty
returns-then-not-is_empty g c =
    more_behind c.written_values_are_read.ensures.values g.row.P c.requires.places.0 c.requires.places.1 c.args.bytes.now _ _
    _ _ _ c.in-Ok.ensures (c.as_slice.ensures.value ∙ c.in-Ok-freeze_lines.ensures.places) c.in-Ok-read_sheets.ensures
    (λ none. false-ne_true (c.if-not-is_empty.ensures ∙ ap (λ (l : List ℕ). length l == 0) none))

pub returns-in-Err : goal.returns-in-Err
returns-in-Err g c = stop_later c.in-Err.stop (no_calls g.row.P c.args.bytes.now) c.in-Err.ensures

pub returns-in-Err-freeze_lines : goal.returns-in-Err-freeze_lines
returns-in-Err-freeze_lines g c = tt
