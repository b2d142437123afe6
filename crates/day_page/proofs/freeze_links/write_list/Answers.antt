use Rattle.std.proofs.Common.{◌∙◌, [], ◌∷◌}
use Rattle.std.specs.Prelude.{codes}
use Rattle.page_tree.specs.Print.{printed}
use Rattle.sheet_page.specs.Trees.{each}
use Rattle.day_page.specs.Freezes.{link_of}
use Rattle.day_page.specs.Lists.{own_first}
use Rattle.day_page.proofs.Sheets.{own_then_others}
use Rattle.sheet_page.proofs.Printing.{wrapped, printed-each}
use Rattle.sheet_page.proofs.Pens.{later, renamed}
use Rattle.day_page.proofs.freeze_links.write_list.Goals as goal

pub returns : goal.returns
returns g c =
    let link = link_of c.args.calls in
    let all = own_first c.args.sheets.now in
    let them =
    own_then_others (λ s. printed (link s)) c.args.sheets.now _ _ c.own_apart.ensures.own
    c.own_apart.ensures.others in
    renamed (wrapped (codes "ul") [] (each link all ∷ []))
    (later c.open.ensures
    (later (renamed (them ∙ printed-each link all) (later c.write_each.ensures c.write_each-2.ensures))
    c.close.ensures))
