use Rattle.piece_text.proofs.Written.{later, stops}
use Rattle.sheet_page.proofs.items.write_isolated.Goals as goal

pub returns-in_err-write_start : goal.returns-in_err-write_start
returns-in_err-write_start g c = stops _ _ c.from_residual.ensures.0 c.in_err-write_start.ensures

pub returns-in_err-write_text : goal.returns-in_err-write_text
returns-in_err-write_text g c =
    later _ _ _ c.in_ok-write_start.ensures
    (stops _ _ c.from_residual-in_err-write_text.ensures.0 c.in_err-write_text.ensures)

pub returns : goal.returns
returns g c = later _ _ _ c.in_ok-write_start.ensures (later _ _ _ c.in_ok-write_text.ensures c.write_end.ensures)
