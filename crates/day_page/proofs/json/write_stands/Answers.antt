use Rattle.sheet_page.proofs.Pens.{later}
use Rattle.day_page.proofs.json.write_stands.Goals as goal

pub returns : goal.returns
returns g c =
    later c.piece.ensures (later c.write_batches.ensures (later c.piece-2.ensures c.write_struck.ensures))
