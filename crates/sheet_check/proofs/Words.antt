-- What words ask for.
use Rattle.std.proofs.Common.{◌≡◌, refl, List}
use Rattle.std.specs.Prelude.{Result, Ok, Err, IfOk}
use Rattle.meek_words.specs.Numerals.{Word}
use Rattle.meek_words.specs.declared.words_stop.WordsStop.{WordsStop}
use Rattle.meek_words.specs.declared.words_stop.WordsStop.TheVariants.{BadWords, NoMemory}
use Rattle.check_words.specs.Asks.{Asks}
use Rattle.check_words.specs.declared.asked.Asked.{Asked}
use Rattle.tool_edge.specs.Words.{IsAsked}

-- what is made of words is what a tool takes
pub asked_by :
    (words : List Word) (read : Result Asked WordsStop) → IfOk read (Asks words)
    → (read ≡ Err BadWords → (asked : Asked) → ¬ (Asks words asked)) → IsAsked Asks words read
asked_by words (Ok asked) asks none = asks
asked_by words (Err BadWords) asks none = none refl
asked_by words (Err NoMemory) asks none = tt
