use Rattle.sheet_page.proofs.Pens.{later}
use Rattle.day_page.proofs.calls_text.write_line.Goals as goal

pub returns : goal.returns
returns g c =
    later c.write_right.ensures
    (later c.piece.ensures (later c.write_left.ensures (later c.write_left-2.ensures
    (later c.piece-2.ensures c.piece-3.ensures))))
