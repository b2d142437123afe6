use Rattle.blt_import.proofs.AnyOrder.{records_have_one_text}
use Rattle.blt_import.proofs.laws.records_have_one_text.Goals as goal

pub returns : goal.returns
returns c =
    records_have_one_text c.fault_or_table.ensures c.records_have_no_order.ensures c.one_bag_has_one_text.ensures
