use Rattle.sheet_page.specs.Json.{candidate_json}
use Rattle.sheet_page.proofs.Pens.{nothing, place_more}
use Rattle.sheet_page.proofs.json.write_candidates.Goals as goal

pub loop-p-init : goal.loop-p-init
loop-p-init g c = nothing _ _

pub loop-p-preserved : goal.loop-p-preserved
loop-p-preserved g c = place_more (candidate_json c.args.values.now) c.loop-p.p c.loop-p.invariant c.write_candidate.ensures
