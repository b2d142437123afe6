use Rattle.check_words.proofs.OneLemmas.{ask_one_thing}
use Rattle.check_words.proofs.laws.words_ask_one_thing.Goals as goal

pub returns : goal.returns
returns c = ask_one_thing c.words_have_one_lot_list.ensures
