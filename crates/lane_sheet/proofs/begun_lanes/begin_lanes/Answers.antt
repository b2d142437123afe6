use Rattle.std.proofs.Common.{rules}
use Rattle.fixed_place.specs.Rounding.{scale}
use Rattle.lane_sheet.proofs.BegunLanes.{are_lanes}
use Rattle.lane_sheet.proofs.begun_lanes.begin_lanes.Goals as goal

pub returns : goal.returns
returns g c =
    are_lanes _ (scale g.row.P) c.args.candidates (λ plans lanes met. search rules) c.args.plans.items c.in-Ok.begun.items
    c.in-Ok.ensures.done
