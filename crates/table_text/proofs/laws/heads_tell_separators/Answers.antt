use Rattle.table_text.proofs.HeadKinds.{separator_is}
use Rattle.table_text.proofs.laws.heads_tell_separators.Goals as goal

pub returns : goal.returns
returns c = separator_is
