use Rattle.tool_edge.proofs.Contests as lemmas
use Rattle.tool_edge.proofs.laws.contests_are_refused_once.Goals as goal

pub returns : goal.returns
returns c =
    lemmas.contests_are_refused_once c.accepts_files.ensures c.refuses_by_the_rule.ensures c.lots_laws.ensures.refusal
