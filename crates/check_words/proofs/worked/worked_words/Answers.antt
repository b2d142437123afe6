use Rattle.check_words.proofs.WorkedLemmas.{accepted_words, refused_words}
use Rattle.check_words.proofs.worked.worked_words.Goals as goal

pub returns-clause-refused : goal.returns-clause-refused
returns-clause-refused c = refused_words

pub returns-clause-accepted : goal.returns-clause-accepted
returns-clause-accepted c = accepted_words
