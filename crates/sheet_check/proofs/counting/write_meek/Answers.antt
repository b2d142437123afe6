use Rattle.plain_ballots.specs.Ballots.{plain}
use Rattle.meek_rule.specs.Rule.{Meek}
use Rattle.sheet_text.specs.Sheet.{IsSheet}
use Rattle.lane_sheet.proofs.Sheets.{written_as}
use Rattle.sheet_check.proofs.counting.write_meek.Goals as goal

-- the packed ballots are the ballots in another order
pub returns : goal.returns
returns g c =
    let packed = plain c.in_ok-packed.packed.lines in
    let ballots = plain c.args.ballots.lines in
    let omega = c.args.terms.now.omega in
    let roll = c.args.roll.now in
    let lots = c.args.terms.now.lots in
    written_as g.K.Sink.written g.K.Sink.faults c.args.sink.now c.write_sheet_in_lanes.new.sink
    (IsSheet g.row.P omega packed roll lots) (IsSheet g.row.P omega ballots roll lots) c.in_ok-wrote.wrote
    (λ text is. (c.sheets_are_unique.ensures.orders Meek g.row.P omega packed ballots roll lots text
    c.in_ok-packed.ensures.ballots).0 is)
    c.in_ok-wrote.ensures
