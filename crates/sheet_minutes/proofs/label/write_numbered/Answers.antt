use Rattle.piece_text.proofs.Written.{later, stops}
use Rattle.sheet_minutes.proofs.label.write_numbered.Goals as goal

pub returns-in_err-write_piece : goal.returns-in_err-write_piece
returns-in_err-write_piece g c = stops _ _ c.from_residual.ensures.0 c.in_err-write_piece.ensures

pub returns-in_err-write_bytes : goal.returns-in_err-write_bytes
returns-in_err-write_bytes g c =
    later _ _ _ c.in_ok-write_piece.ensures
    (stops _ _ c.from_residual-in_err-write_bytes.ensures.0 c.in_err-write_bytes.ensures)

pub returns : goal.returns
returns g c =
    later _ _ _ c.in_ok-write_piece.ensures (later _ _ _ c.in_ok-write_bytes.ensures c.write_name.ensures)
