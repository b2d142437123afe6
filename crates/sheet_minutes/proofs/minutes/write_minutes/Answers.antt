use Rattle.piece_text.proofs.Written.{later, stops}
use Rattle.sheet_minutes.proofs.minutes.write_minutes.Goals as goal

pub returns-in_err-write_heading : goal.returns-in_err-write_heading
returns-in_err-write_heading g c = stops _ _ c.from_residual.ensures.0 c.in_err-write_heading.ensures

pub returns-in_err-write_result : goal.returns-in_err-write_result
returns-in_err-write_result g c =
    later _ _ _ c.in_ok-write_heading.ensures
    (stops _ _ c.from_residual-in_err-write_result.ensures.0 c.in_err-write_result.ensures)

pub returns-in_err-write_table : goal.returns-in_err-write_table
returns-in_err-write_table g c =
    later _ _ _ c.in_ok-write_heading.ensures (later _ _ _ c.in_ok-write_result.ensures
    (stops _ _ c.from_residual-in_err-write_table.ensures.0 c.in_err-write_table.ensures))

pub returns : goal.returns
returns g c =
    later _ _ _ c.in_ok-write_heading.ensures (later _ _ _ c.in_ok-write_result.ensures
    (later _ _ _ c.in_ok-write_table.ensures c.write_decisions.ensures))
