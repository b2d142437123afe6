use Rattle.sheet_reader.proofs.Cuts.{none_some}
use Rattle.sheet_reader.proofs.WordLines.{same_line}
use Rattle.sheet_reader.proofs.row_reader.read_amount.Goals as goal

pub returns-in_default-read_units : goal.returns-in_default-read_units
returns-in_default-read_units g c u rest small is =
    none_some _ u c.in_default-read_units.is
    (c.read_units.ensures.whole u small (same_line c.args.word.now _ _ _ _ rest c.in-Some.ensures is).0)
