use Rattle.meek_words.proofs.LotListLemmas.{one_lot_list}
use Rattle.meek_words.proofs.laws.words_have_one_lot_list.Goals as goal

pub returns : goal.returns
returns c = one_lot_list
