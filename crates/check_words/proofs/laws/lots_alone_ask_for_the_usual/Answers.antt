use Rattle.check_words.proofs.LotsAlone.{lots_alone}
use Rattle.check_words.proofs.laws.lots_alone_ask_for_the_usual.Goals as goal

pub returns : goal.returns
returns c = lots_alone
