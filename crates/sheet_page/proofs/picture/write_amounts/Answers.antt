use Rattle.std.proofs.Common.{[], ◌∷◌}
use Rattle.std.specs.Prelude.{codes}
use Rattle.sheet_minutes.specs.Rounds.{left_over}
use Rattle.sheet_page.specs.Picture.{amounts_text, rest_part}
use Rattle.sheet_page.proofs.Printing.{wrapped}
use Rattle.sheet_page.proofs.Pens.{later, renamed}
use Rattle.sheet_page.proofs.picture.write_amounts.Goals as goal

pub returns : goal.returns
returns g c =
    let row = c.args.row.now in
    renamed (wrapped (codes "p") []
    (amounts_text g.row.P row.quota (left_over g.row.P c.args.values.now.ballots row) ∷ rest_part g.row.P row ∷ []))
    (later c.open.ensures (later c.write_quota_and_left.ensures (later c.write_rest.ensures c.close.ensures)))
