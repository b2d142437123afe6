use Rattle.batch_core.proofs.HistoryLemmas.{legal_there}
use Rattle.batch_core.proofs.laws.a_legal_history_has_the_books_replies.Goals as goal

pub returns : goal.returns
returns c = legal_there
