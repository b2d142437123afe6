use Rattle.tool_edge.proofs.Contests.{have_one_order}
use Rattle.tool_edge.proofs.laws.words_have_one_order.Goals as goal

pub returns : goal.returns
returns c = have_one_order c.words_have_one_lot_list.ensures
