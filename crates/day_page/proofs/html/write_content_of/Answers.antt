use Rattle.std.proofs.Common.{ap, length, ℕ, [], ◌∷◌}
use Rattle.std.specs.Prelude.{codes}
use Rattle.page_tree.specs.Print.{printed}
use Rattle.day_page.specs.CallTable.{calls_part}
use Rattle.day_page.specs.DayHtml.{day_heading}
use Rattle.day_page.specs.EndPart.{end_part}
use Rattle.day_page.specs.Freezes.{freeze_links, freeze_parts}
use Rattle.sheet_page.proofs.Printing.{wrapped}
use Rattle.sheet_page.proofs.Pens.{later, renamed}
use Rattle.day_page.proofs.html.write_content_of.Goals as goal

pub returns : goal.returns
returns g c =
    let history = c.args.history.now.items in
    let sheets = c.args.sheets.now in
    let calls = length history in
    let links = ap (λ (n : ℕ). printed (freeze_links n sheets)) c.len-calls.ensures in
    let parts = ap (λ (n : ℕ). printed (freeze_parts g.row.P n sheets)) c.len-calls.ensures in
    renamed (wrapped (codes "main") [] (
    day_heading ∷ freeze_links calls sheets ∷ calls_part history ∷ end_part c.args.end.now
    ∷ freeze_parts g.row.P calls sheets ∷ []
    ))
    (later c.open.ensures
    (later c.write_heading.ensures (later (renamed links c.write_links.ensures) (later c.write_calls.ensures
    (later c.write_end.ensures (later (renamed parts c.write_freezes.ensures) c.close.ensures))))))
