use Rattle.std.proofs.Common.{◌∙◌, ap, List}
use Rattle.day_text.specs.declared.batch_end.BatchEnd.{BatchEnd}
use Rattle.day_page.specs.DayJson.{end_json, stands_json}
use Rattle.sheet_page.proofs.Pens.{renamed}
use Rattle.day_page.proofs.json.write_end.Goals as goal

pub returns : goal.returns
returns g c =
    renamed (ap (λ (l : List BatchEnd). stands_json l c.as_slice-2.result.now) c.as_slice.ensures.value
    ∙ ap (stands_json c.end.inside.batches.items) c.as_slice-2.ensures.value
    ∙ ap end_json c.end.view_is) c.write_stands.ensures
