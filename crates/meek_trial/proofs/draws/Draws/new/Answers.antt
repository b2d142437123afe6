use Rattle.std.proofs.Common.{sym}
use Rattle.meek_trial.proofs.Going.{drawn_first}
use Rattle.meek_trial.proofs.draws.Draws.new.Goals as goal

pub invariant_of-result : goal.invariant_of-result
invariant_of-result c = (sym (drawn_first c.args.number), c.requires)
