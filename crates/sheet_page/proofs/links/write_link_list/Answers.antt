use Rattle.std.proofs.Common.{length, [], ◌∷◌}
use Rattle.std.specs.Prelude.{codes}
use Rattle.sheet_page.specs.Trees.{each}
use Rattle.sheet_page.specs.Values.{all_places}
use Rattle.sheet_page.specs.Links.{link_at}
use Rattle.sheet_page.proofs.Printing.{wrapped, printed-each}
use Rattle.sheet_page.proofs.Pens.{later, renamed}
use Rattle.sheet_page.proofs.links.write_link_list.Goals as goal

pub returns : goal.returns
returns g c =
    let v = c.args.values.now in
    let all = all_places (length v.rows) in
    renamed (wrapped (codes "ul") [] (each (link_at c.args.names v) all ∷ []))
    (later c.open.ensures (later (renamed (printed-each (link_at c.args.names v) all) c.write_each_link.ensures) c.close.ensures))
