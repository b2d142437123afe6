use Rattle.piece_text.proofs.Written.{later, stops}
use Rattle.day_page.proofs.csv.write_marked_day_csv.Goals as goal

pub returns-in_err-write_bytes : goal.returns-in_err-write_bytes
returns-in_err-write_bytes g c = stops _ _ c.from_residual.ensures.0 c.in_err-write_bytes.ensures

pub returns : goal.returns
returns g c = later _ _ _ c.in_ok-write_bytes.ensures c.write_day_csv.ensures
