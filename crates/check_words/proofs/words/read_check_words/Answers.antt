use Rattle.std.proofs.Common.{map, string_bytes}
use Rattle.check_words.proofs.OneLemmas.{read_one, says_of}
use Rattle.check_words.proofs.words.read_check_words.Goals as goal

pub returns-clause-one : goal.returns-clause-one
returns-clause-one c asked asks =
    read_one c.words_ask_one_thing.ensures (map string_bytes c.args.words.now) c.in-Some.values asked c.read.result
    c.in-Some.ensures.found asks c.read.ensures.accepted

pub returns-clause-refused : goal.returns-clause-refused
returns-clause-refused c refused asked asks =
    c.read.ensures.refused refused asked
    (says_of (map string_bytes c.args.words.now) c.in-Some.values asked c.in-Some.ensures.found asks)
