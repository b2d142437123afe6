use Rattle.std.proofs.Common.{[], ◌∷◌}
use Rattle.std.specs.Prelude.{codes}
use Rattle.sheet_page.specs.Told.{end_list, outcome_list, result_title}
use Rattle.sheet_page.proofs.Printing.{wrapped}
use Rattle.sheet_page.proofs.Pens.{later, renamed}
use Rattle.sheet_page.proofs.told.write_result.Goals as goal

pub returns : goal.returns
returns g c =
    let v = c.args.values.now in
    renamed (wrapped (codes "section") [] (result_title ∷ end_list v ∷ outcome_list v ∷ []))
    (later c.open.ensures (later c.write_title.ensures (later c.write_ending.ensures
    (later c.write_outcomes.ensures c.close.ensures))))
