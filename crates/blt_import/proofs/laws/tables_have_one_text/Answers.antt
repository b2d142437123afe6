use Rattle.blt_import.proofs.OneText.{one_text}
use Rattle.blt_import.proofs.laws.tables_have_one_text.Goals as goal

pub returns : goal.returns
returns c = one_text c.one_bag_has_one_text.ensures
