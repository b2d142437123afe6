use Rattle.lot_order.proofs.LotsLemmas.{first_marked-comes_first}
use Rattle.lot_order.proofs.RefusalLemmas.{one_refusal}
use Rattle.lot_order.proofs.laws.lots_laws.Goals as goal

pub returns-clause-refusal : goal.returns-clause-refusal
returns-clause-refusal c = one_refusal

pub returns-clause-first : goal.returns-clause-first
returns-clause-first c = first_marked-comes_first
