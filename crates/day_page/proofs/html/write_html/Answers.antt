use Rattle.std.proofs.Common.{rules}
use Rattle.sheet_page.proofs.Pens.{later, ended}
use Rattle.day_page.proofs.html.write_html.Goals as goal

pub returns : goal.returns
returns g c =
    ended c.new-pen.ensures.before c.new-pen.ensures.well
    (later c.piece.ensures (later c.write_page.ensures c.piece-2.ensures)) (search rules)
    c.end.ensures.done
