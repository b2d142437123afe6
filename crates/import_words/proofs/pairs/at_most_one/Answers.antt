use Rattle.std.proofs.Common.{◌≤◌, ◌∙◌, sym, subst, List, length}
use Rattle.meek_words.specs.Numerals.{Word}
use Rattle.import_words.proofs.ValueLemmas.{some_word, values_twice}
use Rattle.import_words.proofs.pairs.at_most_one.Goals as goal

pub returns-then-is_some-clause-more : goal.returns-then-is_some-clause-more
returns-then-is_some-clause-more c =
    values_twice c.args.option c.args.pairs.now c.loop-pair.pair-index _ c.loop-pair-test.true
    (subst (λ (ws : List Word). 1 ≤ length ws) c.loop-pair.invariant
    (some_word c.loop-pair.found (sym c.is_some.ensures ∙ c.if-is_some.true)))
    (sym c.is_same.ensures ∙ c.if-is_same.true)
