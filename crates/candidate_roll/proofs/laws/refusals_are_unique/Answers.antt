use Rattle.candidate_roll.proofs.RefusalLemmas.{one_name_refusal, one_roll_refusal}
use Rattle.candidate_roll.proofs.laws.refusals_are_unique.Goals as goal

pub returns-clause-name : goal.returns-clause-name
returns-clause-name c = one_name_refusal

pub returns-clause-roll : goal.returns-clause-roll
returns-clause-roll c = one_roll_refusal
