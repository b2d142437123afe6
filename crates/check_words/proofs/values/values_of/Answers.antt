use Rattle.std.proofs.Common.{arith, map, string_bytes}
use Rattle.check_words.proofs.PairLemmas.{no_pair, some_words, stands_twice}
use Rattle.check_words.proofs.values.values_of.Goals as goal

pub returns-in_default-clause-none : goal.returns-in_default-clause-none
returns-in_default-clause-none c asked asks =
    no_pair (map string_bytes c.args.words.now) (map string_bytes c.loop-rest.rest.now) c.loop-rest.values
    c.loop-rest.invariant
    (some_words string_bytes c.loop-rest.rest.now (grind (arith, c.is_empty.ensures, c.loop-rest-test)))
    c.in_default.ensures.none asked asks

pub returns-in_default-with-clause-none : goal.returns-in_default-with-clause-none
returns-in_default-with-clause-none c asked asks =
    stands_twice (map string_bytes c.args.words.now) (map string_bytes c.loop-rest.rest.now)
    (map string_bytes c.in-Some.behind.now) c.loop-rest.values c.in-Some.option c.in-Some.value.now
    c.loop-rest.invariant c.in-Some.ensures.cut c.in_default-with.ensures.stood asked asks
