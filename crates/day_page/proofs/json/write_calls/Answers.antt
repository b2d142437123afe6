use Rattle.sheet_page.proofs.Pens.{later}
use Rattle.day_page.proofs.json.write_calls.Goals as goal

pub returns : goal.returns
returns g c = later c.piece.ensures c.write_entries.ensures
