use Rattle.sheet_page.proofs.Pens.{renamed}
use Rattle.day_page.proofs.json.write_comma.Goals as goal

pub returns : goal.returns
returns g c = renamed c.comma_at.ensures c.piece.ensures
