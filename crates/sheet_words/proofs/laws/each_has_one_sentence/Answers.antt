use Rattle.sheet_words.proofs.Naming.{winners, losers}
use Rattle.sheet_words.proofs.laws.each_has_one_sentence.Goals as goal

pub returns-clause-winners : goal.returns-clause-winners
returns-clause-winners c = winners

pub returns-clause-losers : goal.returns-clause-losers
returns-clause-losers c = losers
