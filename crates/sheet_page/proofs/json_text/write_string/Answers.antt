use Rattle.piece_text.proofs.Written.{later, stops}
use Rattle.sheet_page.proofs.json_text.write_string.Goals as goal

pub returns-in_err-write_bytes : goal.returns-in_err-write_bytes
returns-in_err-write_bytes g c = stops _ _ c.from_residual.ensures.0 c.in_err-write_bytes.ensures

pub returns-in_err-write_escaped : goal.returns-in_err-write_escaped
returns-in_err-write_escaped g c =
    later _ _ _ c.in_ok-write_bytes.ensures
    (stops _ _ c.from_residual-in_err-write_escaped.ensures.0 c.in_err-write_escaped.ensures)

pub returns : goal.returns
returns g c = later _ _ _ c.in_ok-write_bytes.ensures (later _ _ _ c.in_ok-write_escaped.ensures c.write_bytes-2.ensures)
