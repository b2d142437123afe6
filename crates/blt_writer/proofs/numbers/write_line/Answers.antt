use Rattle.piece_text.proofs.Written.{later, stops}
use Rattle.blt_writer.proofs.numbers.write_line.Goals as goal

pub returns-in_err-write_number : goal.returns-in_err-write_number
returns-in_err-write_number g c = stops _ _ c.from_residual.ensures.0 c.in_err-write_number.ensures

pub returns-in_err-write_candidates : goal.returns-in_err-write_candidates
returns-in_err-write_candidates g c =
    later _ _ _ c.in_ok-write_number.ensures
    (stops _ _ c.from_residual-in_err-write_candidates.ensures.0 c.in_err-write_candidates.ensures)

pub returns : goal.returns
returns g c = later _ _ _ c.in_ok-write_number.ensures (later _ _ _ c.in_ok-write_candidates.ensures c.write_bytes.ensures)
