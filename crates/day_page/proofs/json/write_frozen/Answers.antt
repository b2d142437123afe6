use Rattle.sheet_page.proofs.Pens.{later}
use Rattle.day_page.proofs.json.write_frozen.Goals as goal

pub returns : goal.returns
returns g c = later c.write_freeze_head.ensures (later c.write_sheet_json.ensures c.piece.ensures)
