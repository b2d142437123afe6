use Rattle.blt_writer.proofs.EveryText as texts
use Rattle.blt_writer.proofs.laws.every_bag_has_a_text.Goals as goal

pub returns : goal.returns
returns c = texts.every_bag_has_a_text
