use Rattle.plain_ballots.proofs.RefusalLemmas.{one_refusal}
use Rattle.plain_ballots.proofs.laws.ranks_have_one_refusal.Goals as goal

pub returns : goal.returns
returns c = one_refusal
