use Rattle.batch_core.proofs.StruckLemmas.{struck_called, struck_once}
use Rattle.batch_core.proofs.laws.struck_candidates_are_listed_once.Goals as goal

pub returns : goal.returns
returns c = record { called = struck_called; once = struck_once }
