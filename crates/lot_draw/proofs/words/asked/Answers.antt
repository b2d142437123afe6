use Rattle.std.proofs.Common.{◌≡◌, refl, ap}
use Rattle.std.specs.Prelude.{Err}
use Rattle.meek_words.specs.declared.words_stop.WordsStop.{WordsStop}
use Rattle.meek_words.specs.declared.words_stop.WordsStop.TheVariants.{BadWords}
use Rattle.lot_draw.proofs.WordLemmas.{stop_is}
use Rattle.lot_draw.proofs.words.asked.Goals as goal

pub returns-in-Err-clause-refused : goal.returns-in-Err-clause-refused
returns-in-Err-clause-refused c refused n says =
    let same : c.in-Err.stop ≡ BadWords = stop_is _ _ _ refl refused in
    c.in-Err.ensures.refused (ap (λ (stop : WordsStop). Err stop) same) says.numeral
