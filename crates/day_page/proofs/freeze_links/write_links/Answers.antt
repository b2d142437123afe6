use Rattle.std.proofs.Common.{[], ◌∷◌}
use Rattle.std.specs.Prelude.{codes}
use Rattle.sheet_page.specs.Trees.{at}
use Rattle.day_page.specs.Freezes.{link_list}
use Rattle.sheet_page.proofs.Printing.{wrapped}
use Rattle.sheet_page.proofs.Pens.{later, renamed}
use Rattle.day_page.proofs.freeze_links.write_links.Goals as goal

pub returns : goal.returns
returns g c =
    renamed (wrapped (codes "nav") (at (codes "aria-label") (codes "Freezes") ∷ [])
    (link_list c.args.calls c.args.sheets.now ∷ []))
    (later c.start.ensures (later c.write_list.ensures c.close.ensures))
