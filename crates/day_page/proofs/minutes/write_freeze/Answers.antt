use Rattle.std.proofs.Common.{◌∙◌, ap, ℕ, List}
use Rattle.day_page.specs.DayMinutes.{freeze_text, titled_text}
use Rattle.sheet_page.proofs.Pens.{renamed}
use Rattle.day_page.proofs.minutes.write_freeze.Goals as goal

pub returns : goal.returns
returns g c =
    let s = c.sheet.inside in
    renamed (ap (λ (l : List ℕ). titled_text g.row.P s.freeze l s.values) c.whose-whose.ensures
    ∙ ap (freeze_text g.row.P c.args.calls) c.sheet.view_is) c.write_titled.ensures
