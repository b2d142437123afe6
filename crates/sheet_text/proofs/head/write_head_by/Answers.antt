use Rattle.std.proofs.Common.{◌∙◌}
use Rattle.sheet_text.proofs.WritingLemmas.{later, stops}
use Rattle.sheet_text.proofs.head.write_head_by.Goals as goal

pub returns-in_err-write_bytes_line : goal.returns-in_err-write_bytes_line
returns-in_err-write_bytes_line g c =
    let title = c.bytes.ensures.value ∙ c.title.ensures in
    rw (← title) (stops _ c.from_residual.result c.from_residual.ensures.0 c.in_err-write_bytes_line.ensures)

pub returns-in_err-write_count_line : goal.returns-in_err-write_count_line
returns-in_err-write_count_line g c =
    let title = c.bytes.ensures.value ∙ c.title.ensures in
    rw (← title, ← c.seats.ensures.value) (later _ _ _ c.in_ok-write_bytes_line.ensures
    (stops _ _ c.from_residual-in_err-write_count_line.ensures.0 c.in_err-write_count_line.ensures))

pub returns-in_err-write_count_line-2 : goal.returns-in_err-write_count_line-2
returns-in_err-write_count_line-2 g c =
    let title = c.bytes.ensures.value ∙ c.title.ensures in
    rw (← title, ← c.seats.ensures.value, ← c.candidates.ensures.value)
    (later _ _ _ c.in_ok-write_bytes_line.ensures (later _ _ _ c.in_ok-write_count_line.ensures
    (stops _ _ c.from_residual-in_err-write_count_line-2.ensures.0
    c.in_err-write_count_line-2.ensures)))

pub returns : goal.returns
returns g c =
    let title = c.bytes.ensures.value ∙ c.title.ensures in
    rw (← title, ← c.seats.ensures.value, ← c.candidates.ensures.value)
    (later _ _ _ c.in_ok-write_bytes_line.ensures (later _ _ _ c.in_ok-write_count_line.ensures
    (later _ _ _ c.in_ok-write_count_line-2.ensures c.write_count_line-3.ensures)))
