use Rattle.std.proofs.Common.{◌∙◌, ap, ℕ, List}
use Rattle.day_page.specs.DayJson.{freeze_json, frozen_json}
use Rattle.sheet_page.proofs.Pens.{renamed}
use Rattle.day_page.proofs.json.write_freeze.Goals as goal

pub returns : goal.returns
returns g c =
    let s = c.sheet.inside in
    renamed (ap (λ (l : List ℕ). frozen_json g.row.P s.freeze l s.values) c.own-own.ensures
    ∙ ap (freeze_json g.row.P c.args.calls) c.sheet.view_is) c.write_frozen.ensures
