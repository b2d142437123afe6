-- The values of a command line, as a struct keeps them.
use Rattle.std.specs.Prelude.{Option, List}
use Rattle.std.specs.Option.{option_map, option_to_list}
use Rattle.std.specs.Borrow.{Bor}
use Rattle.meek_words.specs.Numerals.{Word}
use Rattle.meek_words.specs.Parts.{Given}
use Rattle.meek_words.specs.declared.values.Values.{Values}

-- one word or none
abbrev pub words_in : Option (Bor Word) → List Word
words_in value = option_to_list (option_map (λ text. text.now) value)

abbrev pub given_by : Values → Given
given_by values = record {
  lots = words_in values.lots;
  shards = words_in values.shards;
  workers = words_in values.workers;
  plain = words_in values.plain;
}
