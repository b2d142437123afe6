use Rattle.std.proofs.Common.{refl, ap}
use Rattle.std.specs.Prelude.{Err}
use Rattle.meek_words.specs.declared.words_stop.WordsStop.{WordsStop}
use Rattle.import_words.proofs.NumberLemmas.{numeral_taken, numeral_listed, numeral_only, stop_is}
use Rattle.import_words.proofs.reading.seats_of.Goals as goal

pub returns-in-Some-clause-taken : goal.returns-in-Some-clause-taken
returns-in-Some-clause-taken c =
    numeral_taken _ _ _ _ _ c.as_bytes.ensures.value c.in-Ok.ensures.accepted c.items.ensures
    c.in-Some.ensures.only.0 c.in-Some.ensures.only.1 c.in-Some.ensures.range.0 c.in-Some.ensures.range.1

pub returns-in-Ok-clause-refused : goal.returns-in-Ok-clause-refused
returns-in-Ok-clause-refused c refused numeral =
    numeral_only _ _ _ (c.in-Ok.ensures.one _ (numeral_listed _ _ c.as_bytes.ensures.value numeral))
    c.items.ensures numeral c.in-None.ensures.none

pub returns-clause-refused : goal.returns-clause-refused
returns-clause-refused c refused numeral =
    let same = stop_is _ _ _ refl refused in
    c.in-Err.ensures.refused (ap (λ (stop : WordsStop). Err stop) same) _
    (numeral_listed _ _ c.as_bytes.ensures.value numeral)
