use Rattle.ballot_table.proofs.RecordLemmas.{counted_in_any_order}
use Rattle.ballot_table.proofs.laws.records_have_no_order.Goals as goal

pub returns : goal.returns
returns c = λ asked t empty head one other moved. counted_in_any_order asked empty t head one other moved
