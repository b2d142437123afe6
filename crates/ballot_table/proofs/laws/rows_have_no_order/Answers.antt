use Rattle.ballot_table.proofs.BallotsLemmas.{in_any_order}
use Rattle.ballot_table.proofs.laws.rows_have_no_order.Goals as goal

pub returns : goal.returns
returns c = in_any_order
