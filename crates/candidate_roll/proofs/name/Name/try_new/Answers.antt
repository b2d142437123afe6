use Rattle.std.proofs.Common.{arith, rules}
use Rattle.candidate_roll.proofs.NameLemmas.{IsName-more}
use Rattle.candidate_roll.proofs.name.Name.try_new.Goals as goal

pub loop-at-preserved : goal.loop-at-preserved
loop-at-preserved g c = IsName-more _ _ _ c.loop-at.invariant (omega arith) (omega arith) (search rules)
