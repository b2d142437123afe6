use Rattle.std.proofs.Common.{[], ◌∷◌}
use Rattle.std.specs.Prelude.{codes}
use Rattle.sheet_page.specs.Trees.{at}
use Rattle.sheet_page.specs.Links.{link_list}
use Rattle.sheet_page.proofs.Printing.{wrapped}
use Rattle.sheet_page.proofs.Pens.{later, renamed}
use Rattle.sheet_page.proofs.links.write_links.Goals as goal

pub returns : goal.returns
returns g c =
    renamed (wrapped (codes "nav") (at (codes "aria-label") (codes "Rounds") ∷ []) (link_list c.args.names c.args.values.now ∷ []))
    (later c.start.ensures (later c.write_link_list.ensures c.close.ensures))
