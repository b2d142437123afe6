use Rattle.tool_edge.proofs.Contests as lemmas
use Rattle.tool_edge.proofs.laws.files_are_refused_once.Goals as goal

pub returns : goal.returns
returns c = lemmas.files_are_refused_once c.refuses_by_the_rule.ensures
