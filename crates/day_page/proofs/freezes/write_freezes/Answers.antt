use Rattle.std.proofs.Common.{◌∙◌}
use Rattle.page_tree.specs.Print.{printed}
use Rattle.day_page.specs.Freezes.{freeze_part}
use Rattle.day_page.specs.Lists.{own_first}
use Rattle.day_page.proofs.Sheets.{own_then_others}
use Rattle.sheet_page.proofs.Printing.{printed-each}
use Rattle.sheet_page.proofs.Pens.{later, renamed}
use Rattle.day_page.proofs.freezes.write_freezes.Goals as goal

pub returns : goal.returns
returns g c =
    let part = freeze_part g.row.P c.args.calls in
    let them =
    own_then_others (λ s. printed (part s)) c.args.sheets.now _ _ c.own_apart.ensures.own
    c.own_apart.ensures.others in
    renamed (them ∙ printed-each part (own_first c.args.sheets.now))
    (later c.write_each.ensures c.write_each-2.ensures)
