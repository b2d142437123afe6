use Rattle.std.proofs.Common.{sym}
use Rattle.piece_text.proofs.Written.{later, stops}
use Rattle.blt_writer.proofs.file.write_head.Goals as goal

pub returns-in_err-write_number : goal.returns-in_err-write_number
returns-in_err-write_number g c =
    rw (sym c.candidates.ensures.value) (stops _ _ c.from_residual.ensures.0 c.in_err-write_number.ensures)

pub returns : goal.returns
returns g c =
    rw (sym c.candidates.ensures.value, sym c.seats.ensures.value)
    (later _ _ _ c.in_ok-write_number.ensures c.write_number-2.ensures)
