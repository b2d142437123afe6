use Rattle.number_word.proofs.OptionLemmas.{one_number}
use Rattle.number_word.proofs.laws.words_have_one_number.Goals as goal

pub returns : goal.returns
returns c = one_number
