use Rattle.tool_edge.proofs.Contests as lemmas
use Rattle.tool_edge.proofs.laws.contests_are_not_refused.Goals as goal

pub returns : goal.returns
returns c = lemmas.contests_are_not_refused c.accepts_files.ensures c.refuses_by_the_rule.ensures
