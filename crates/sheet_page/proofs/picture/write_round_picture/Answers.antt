use Rattle.sheet_page.specs.Picture.{amounts_of, picture}
use Rattle.sheet_page.proofs.Printing.{printed-two}
use Rattle.sheet_page.specs.RoundEnds.{settled}
use Rattle.sheet_page.proofs.Pens.{later, renamed}
use Rattle.sheet_page.proofs.picture.write_round_picture.Goals as goal

pub returns : goal.returns
returns g c =
    renamed (printed-two (amounts_of g.row.P c.args.values.now.ballots c.args.row.now)
    (picture g.row.P c.args.values.now c.args.full (settled c.args.row.now c.args.behind.now)))
    (later c.write_amounts.ensures c.write_picture.ensures)
