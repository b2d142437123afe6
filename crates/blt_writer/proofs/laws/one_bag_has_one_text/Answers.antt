use Rattle.blt_writer.proofs.OneText as lines
use Rattle.blt_writer.proofs.laws.one_bag_has_one_text.Goals as goal

pub returns : goal.returns
returns c = lines.one_bag_has_one_text
