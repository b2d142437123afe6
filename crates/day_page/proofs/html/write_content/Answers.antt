use Rattle.std.proofs.Common.{◌∙◌, ap}
use Rattle.page_tree.specs.Print.{printed}
use Rattle.day_text.specs.End.{DayEndList}
use Rattle.day_text.specs.Values.{DayTextList}
use Rattle.day_page.specs.DayHtml.{content_with}
use Rattle.sheet_page.proofs.Pens.{renamed}
use Rattle.day_page.proofs.html.write_content.Goals as goal

pub returns : goal.returns
returns g c =
    let v = c.args.day.now in
    renamed (ap (λ (w : DayTextList). printed (content_with g.row.P w.history w.sheets c.args.end.now))
    c.day.view_is
    ∙ ap (λ (e : DayEndList). printed (content_with g.row.P v.history v.sheets e)) c.requires.end)
    c.write_content_of.ensures
