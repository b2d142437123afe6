use Rattle.std.proofs.Common.{arith}
use Rattle.number_word.proofs.ListsOfOne.{said, no_list, no_number}
use Rattle.number_word.proofs.number.read_number.Goals as goal

pub returns-in-Some-clause-taken : goal.returns-in-Some-clause-taken
returns-in-Some-clause-taken c =
    said c.args.greatest c.args.word.now c.as_bytes.result.now c.as_bytes.ensures.value c.in-Ok.numbers c.items.result.now
    c.in-Some.number c.in-Ok.ensures.accepted c.items.ensures c.in-Some.ensures.only c.in-Some.ensures.range.0
    c.in-Some.ensures.range.1

pub returns-in-Ok-clause-refused : goal.returns-in-Ok-clause-refused
returns-in-Ok-clause-refused c _ numeral =
    no_number c.args.greatest c.args.word.now c.as_bytes.result.now c.as_bytes.ensures.value c.in-Ok.numbers c.items.result.now
    c.items.ensures c.in-Ok.ensures.one c.in-None.ensures.none numeral

pub returns-clause-refused : goal.returns-clause-refused
returns-clause-refused c refused numeral =
    no_list c.args.greatest c.args.word.now c.as_bytes.result.now c.as_bytes.ensures.value
    (c.in-Err.ensures.refused (grind (arith, refused))) numeral
