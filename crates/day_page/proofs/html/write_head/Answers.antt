use Rattle.std.proofs.Common.{[], ◌∷◌}
use Rattle.std.specs.Prelude.{codes}
use Rattle.sheet_page.specs.Html.{style_part}
use Rattle.day_page.specs.DayHtml.{told_of_page}
use Rattle.sheet_page.proofs.Printing.{wrapped}
use Rattle.sheet_page.proofs.Pens.{later, renamed}
use Rattle.day_page.proofs.html.write_head.Goals as goal

pub returns : goal.returns
returns g c =
    renamed (wrapped (codes "head") [] (told_of_page ∷ style_part ∷ []))
    (later c.open.ensures (later c.write_told.ensures (later c.write_style.ensures c.close.ensures)))
