use Rattle.std.proofs.Common.{◌≡◌, arith, length, rules}
use Rattle.sheet_minutes.specs.Table.{widest_of}
use Rattle.sheet_minutes.proofs.Measures.{narrow}
use Rattle.sheet_minutes.proofs.widths.width_of.Goals as goal

pub returns-clause-narrow : goal.returns-clause-narrow
returns-clause-narrow g c =
    let v = c.args.values.now in
    let small = narrow g.row.P v.ballots (length v.names) v.rows c.requires.places.1 c.requires.printable.ballots c.requires.printable.rows in
    let is : c.widest_of.result ≡ widest_of g.row.P v.ballots v.rows = search rules in
    omega (arith, small, is)
