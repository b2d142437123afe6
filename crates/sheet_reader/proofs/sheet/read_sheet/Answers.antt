use Rattle.std.proofs.Common.{List, sym, subst}
use Rattle.meek_rule.specs.Row.{Row}
use Rattle.sheet_reader.specs.Form.{HasForm}
use Rattle.sheet_reader.proofs.ReadRows.{taken_are}
use Rattle.sheet_reader.proofs.sheet.read_sheet.Goals as goal

pub returns : goal.returns
returns g c =
    let parts = c.in_ok-parts.parts in
    let read = c.in_ok-parts.ensures in
    let kept = taken_are _ c.read_parts.new.sink read.0 c.new-rows.ensures read.1 in
    subst (λ (rows : List Row). HasForm g.row.P c.args.bytes.now (record {
      title = parts.title;
      seats = parts.seats;
      ballots = parts.ballots;
      names = parts.names;
      rows = rows;
      last = parts.last;
    })) (sym kept) read.2
