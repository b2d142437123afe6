use Rattle.std.proofs.Common.{[], ◌∷◌}
use Rattle.std.specs.Prelude.{codes}
use Rattle.sheet_page.specs.Trees.{at}
use Rattle.day_page.specs.DayHtml.{day_body, day_head}
use Rattle.sheet_page.proofs.Printing.{wrapped}
use Rattle.sheet_page.proofs.Pens.{later, renamed}
use Rattle.day_page.proofs.html.write_page.Goals as goal

pub returns : goal.returns
returns g c =
    renamed (wrapped (codes "html") (at (codes "lang") (codes "en") ∷ [])
    (day_head ∷ day_body g.row.P c.args.day.now ∷ []))
    (later c.start.ensures (later c.write_head.ensures (later c.write_body.ensures c.close.ensures)))
