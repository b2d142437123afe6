use Rattle.std.proofs.Common.{[], ◌∷◌}
use Rattle.std.specs.Prelude.{codes}
use Rattle.sheet_page.specs.Html.{elected_list, elected_title}
use Rattle.sheet_page.proofs.Printing.{wrapped}
use Rattle.sheet_page.proofs.Pens.{later, renamed}
use Rattle.sheet_page.proofs.elected.write_elected.Goals as goal

pub returns : goal.returns
returns g c =
    renamed (wrapped (codes "section") ([]) (elected_title ∷ elected_list c.args.values.now ∷ []))
    (later c.open.ensures (later c.write_title.ensures (later c.write_list.ensures c.close.ensures)))
