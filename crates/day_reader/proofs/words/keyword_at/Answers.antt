use Rattle.day_reader.proofs.Keywords.{said_word}
use Rattle.day_reader.proofs.words.keyword_at.Goals as goal

pub returns-in-Word-clause-known : goal.returns-in-Word-clause-known
returns-in-Word-clause-known c =
    said_word c.args.tokens.now.bytes c.args.token.at c.args.token.stop c.args.token.what c.text.result.now
    c.from_letters.result
    c.in-Word.is c.text.ensures c.from_letters.ensures.known
