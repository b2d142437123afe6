use Rattle.std.proofs.Common.{◌∙◌, ap, ℕ, List}
use Rattle.page_tree.specs.Print.{printed}
use Rattle.day_text.specs.Values.{FrozenSheet}
use Rattle.day_page.specs.Freezes.{article, freeze_part}
use Rattle.sheet_page.proofs.Pens.{renamed}
use Rattle.day_page.proofs.freezes.write_part.Goals as goal

pub returns : goal.returns
returns g c =
    let s = c.sheet.inside in
    renamed (ap (λ (l : List ℕ). printed (article g.row.P s.freeze l s.values)) c.whose-whose.ensures
    ∙ ap (λ (f : FrozenSheet). printed (freeze_part g.row.P c.args.calls f)) c.sheet.view_is)
    c.write_article.ensures
