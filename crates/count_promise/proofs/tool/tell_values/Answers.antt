use Rattle.std.proofs.Common.{◌∙◌, refl, inr}
use Rattle.tool_edge.specs.declared.end.End.TheVariants.{Done}
use Rattle.count_promise.proofs.tool.tell_values.Goals as goal

pub returns-in-Ok : goal.returns-in-Ok
returns-in-Ok g c = inr (Done, c.bytes.result.now, (refl, c.bytes.ensures ∙ c.in-Ok.ensures), c.finish.ensures)
