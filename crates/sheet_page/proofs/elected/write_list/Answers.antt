use Rattle.std.proofs.Common.{length, [], ◌∷◌}
use Rattle.std.specs.Prelude.{codes}
use Rattle.sheet_page.specs.Trees.{each}
use Rattle.sheet_page.specs.Values.{all_places}
use Rattle.sheet_page.specs.Html.{elected_in, seated_item}
use Rattle.sheet_page.proofs.Printing.{wrapped, printed-each}
use Rattle.sheet_page.proofs.Pens.{later, renamed}
use Rattle.sheet_page.proofs.elected.write_list.Goals as goal

pub returns : goal.returns
returns g c =
    renamed (wrapped (codes "ol") ([]) (each (elected_in c.args.values.now) c.args.values.now.rows
    ∷ each (seated_item c.args.values.now) (all_places (length c.args.values.now.names)) ∷ []))
    (later c.open.ensures (later (renamed (printed-each (elected_in c.args.values.now) c.args.values.now.rows)
    c.write_elected_rows.ensures) (later (renamed
    (printed-each (seated_item c.args.values.now) (all_places (length c.args.values.now.names)))
    c.write_seated.ensures) c.close.ensures)))
