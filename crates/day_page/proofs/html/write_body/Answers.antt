use Rattle.std.proofs.Common.{[], ◌∷◌}
use Rattle.std.specs.Prelude.{codes}
use Rattle.day_page.specs.DayHtml.{day_content}
use Rattle.sheet_page.proofs.Printing.{wrapped}
use Rattle.sheet_page.proofs.Pens.{later, renamed}
use Rattle.day_page.proofs.html.write_body.Goals as goal

pub returns : goal.returns
returns g c =
    renamed (wrapped (codes "body") [] (day_content g.row.P c.args.day.now ∷ []))
    (later c.open.ensures (later c.write_content.ensures c.close.ensures))
