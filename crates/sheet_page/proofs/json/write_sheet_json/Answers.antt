use Rattle.sheet_page.proofs.Pens.{later}
use Rattle.sheet_page.proofs.json.write_sheet_json.Goals as goal

pub returns : goal.returns
returns g c =
    later c.write_head.ensures (later c.write_candidates.ensures (later c.piece.ensures
    (later c.write_iterations.ensures c.piece-2.ensures)))
