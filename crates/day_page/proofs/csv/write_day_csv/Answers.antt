use Rattle.std.proofs.Common.{rules}
use Rattle.sheet_page.proofs.Pens.{ended}
use Rattle.day_page.proofs.csv.write_day_csv.Goals as goal

pub returns : goal.returns
returns g c =
    ended c.new-pen.ensures.before c.new-pen.ensures.well c.write_table.ensures (search rules) c.end.ensures.done
