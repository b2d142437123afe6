use Rattle.std.proofs.Common.{◌∙◌, ap, ℕ, length, [], ◌∷◌}
use Rattle.page_tree.specs.Print.{printed}
use Rattle.sheet_page.specs.Values.{all_places}
use Rattle.sheet_page.specs.Html.{elected_part, heading, part_at, round_parts, rounds_part}
use Rattle.sheet_page.specs.Links.{links}
use Rattle.sheet_page.specs.Promised.{promise_part}
use Rattle.sheet_page.specs.Told.{result_part}
use Rattle.sheet_page.specs.Picture.{full_of}
use Rattle.sheet_page.proofs.Printing.{one_by_one, printed-each}
use Rattle.sheet_page.proofs.Pens.{later, renamed}
use Rattle.sheet_page.proofs.html.write_sheet_parts.Goals as goal

pub returns : goal.returns
returns g c =
    let v = c.args.values.now in
    let names = c.args.names in
    let rounds = printed-each (part_at names g.row.P v c.sheet_full.result) (all_places (length v.rows))
    ∙ ap (λ (full : ℕ). printed (round_parts names g.row.P v full)) c.sheet_full.ensures in
    renamed (one_by_one (heading v ∷ links names v ∷ elected_part v ∷ result_part v ∷ promise_part g.row.P v
    ∷ rounds_part names g.row.P v ∷ [])
    (round_parts names g.row.P v (full_of v.rows)))
    (later c.write_heading.ensures (later c.write_links.ensures (later c.write_elected.ensures (later c.write_result.ensures
    (later c.write_promise.ensures (later c.write_rounds.ensures (renamed rounds c.write_round_parts.ensures)))))))
