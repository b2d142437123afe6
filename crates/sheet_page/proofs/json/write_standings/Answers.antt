use Rattle.sheet_page.specs.Json.{standing_json}
use Rattle.sheet_page.proofs.Pens.{nothing, place_more}
use Rattle.sheet_page.proofs.json.write_standings.Goals as goal

pub loop-p-init : goal.loop-p-init
loop-p-init g c = nothing _ _

pub loop-p-preserved : goal.loop-p-preserved
loop-p-preserved g c = place_more (standing_json g.row.P c.args.row.now) c.loop-p.p c.loop-p.invariant c.write_standing.ensures
