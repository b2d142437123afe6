use Rattle.sheet_text.proofs.WritingLemmas.{later, stops}
use Rattle.sheet_text.proofs.outcome.write_result_by.Goals as goal

pub returns-in_err-write_bytes_line : goal.returns-in_err-write_bytes_line
returns-in_err-write_bytes_line g c = stops _ _ c.from_residual.ensures.0 c.in_err-write_bytes_line.ensures

pub returns-in_err-write_outcomes : goal.returns-in_err-write_outcomes
returns-in_err-write_outcomes g c =
    later _ _ _ c.in_ok-write_bytes_line.ensures
    (stops _ _ c.from_residual-in_err-write_outcomes.ensures.0 c.in_err-write_outcomes.ensures)

pub returns : goal.returns
returns g c =
    later _ _ _ c.in_ok-write_bytes_line.ensures (later _ _ _ c.in_ok-write_outcomes.ensures c.write_bytes_line-2.ensures)
