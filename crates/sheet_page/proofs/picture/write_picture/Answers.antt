use Rattle.std.proofs.Common.{ap, length, [], ◌∷◌}
use Rattle.std.specs.Prelude.{codes}
use Rattle.meek_rule.specs.Row.{Row}
use Rattle.page_tree.specs.Print.{printed}
use Rattle.sheet_page.specs.Bars.{bars_of}
use Rattle.sheet_page.specs.Trees.{each}
use Rattle.sheet_page.specs.Values.{all_places}
use Rattle.sheet_page.specs.Picture.{bar_at, picture_attributes, picture_title, quota_line, scaled}
use Rattle.sheet_page.proofs.Printing.{wrapped, printed-each}
use Rattle.sheet_page.specs.RoundEnds.{settled}
use Rattle.sheet_page.proofs.Pens.{later, renamed}
use Rattle.sheet_page.proofs.picture.write_picture.Goals as goal

pub returns : goal.returns
returns g c =
    let row = c.args.row.now in
    let full = c.args.full in
    let all = all_places (length c.args.values.now.names) in
    let bar_of = bar_at g.row.P c.args.values.now full (settled row c.args.behind.now) in
    renamed (wrapped (codes "svg") (picture_attributes (bars_of row)) (picture_title row.round
    ∷ each bar_of all ∷ quota_line (scaled full row.quota) (bars_of row) ∷ []))
    (later c.write_start.ensures (later
    (renamed (ap (λ (r : Row). printed (picture_title r.round)) c.row.view_is) c.write_title.ensures)
    (later (renamed (printed-each bar_of all) c.write_bars.ensures)
    (later c.write_quota.ensures c.close.ensures))))
