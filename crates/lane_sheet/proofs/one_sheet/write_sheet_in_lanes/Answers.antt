use Rattle.std.proofs.Common.{map}
use Rattle.plain_ballots.specs.Ballots.{plain}
use Rattle.frozen_plan.specs.Plan.{all_ballots}
use Rattle.lane_sheet.specs.Due.{dues_of}
use Rattle.lane_sheet.proofs.Sheets.{written_as_or, sheet_in_order}
use Rattle.lane_sheet.proofs.one_sheet.write_sheet_in_lanes.Goals as goal

-- the plans' ballots are the ballots in another order
pub returns : goal.returns
returns g c =
    written_as_or g.K.Sink.written g.K.Sink.faults c.args.sink.now c.write_in_lanes.new.sink _ _
    c.write_in_lanes.result
    (sheet_in_order g.row.P c.args.omega (all_ballots c.in_ok-plans.plans) (plain c.args.ballots.lines)
    c.args.roll.now c.args.lots.now _
    (λ i. dues_of c.args.omega c.args.lots.now (c.from_ref.ensures.value i) (map all_ballots (c.in_ok-listed.ensures.items i)))
    c.sheets_are_unique.ensures.orders c.in_ok-plans.ensures.ballots)
    c.write_in_lanes.ensures
