-- The words that ask for the ballots of a freeze.
use Rattle.std.specs.Prelude.{ℕ, List, codes}
use Rattle.meek_words.specs.Numerals.{Word}
use Rattle.number_word.specs.Taken.{TakesNumber}
use Rattle.day_ballots.specs.declared.words.TheConstants.{LAST_LINE}

-- just `--at` and the number of a line, of 1 to 9 digits; lines are numbered from 1
abbrev pub TakesLine : List Word → ℕ → Type 0
TakesLine words at = TakesNumber (codes "--at") LAST_LINE words at
