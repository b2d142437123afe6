use Rattle.batch_core.proofs.HistoryLemmas.{legal_more, book_more, standing_then, struck_then, own_calls-append}
use Rattle.batch_core.proofs.laws.a_book_answers_a_history.Goals as goal

pub returns : goal.returns
returns c = record {
  legal = legal_more;
  book = book_more;
  standing = standing_then;
  struck = struck_then;
  own_calls = own_calls-append;
}
