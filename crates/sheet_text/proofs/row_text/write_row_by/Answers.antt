use Rattle.sheet_text.proofs.WritingLemmas.{later, stops}
use Rattle.sheet_text.proofs.row_text.write_row_by.Goals as goal

pub returns-in_err-write_numbers : goal.returns-in_err-write_numbers
returns-in_err-write_numbers g c = stops _ _ c.from_residual.ensures.0 c.in_err-write_numbers.ensures

pub returns-in_err-write_candidates : goal.returns-in_err-write_candidates
returns-in_err-write_candidates g c =
    later _ _ _ c.in_ok-write_numbers.ensures
    (stops _ _ c.from_residual-in_err-write_candidates.ensures.0 c.in_err-write_candidates.ensures)

pub returns-in_err-write_amounts : goal.returns-in_err-write_amounts
returns-in_err-write_amounts g c =
    later _ _ _ c.in_ok-write_numbers.ensures (later _ _ _ c.in_ok-write_candidates.ensures
    (stops _ _ c.from_residual-in_err-write_amounts.ensures.0 c.in_err-write_amounts.ensures))

pub returns : goal.returns
returns g c =
    later _ _ _ c.in_ok-write_numbers.ensures (later _ _ _ c.in_ok-write_candidates.ensures
    (later _ _ _ c.in_ok-write_amounts.ensures c.write_decision.ensures))
