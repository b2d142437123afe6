-- The values of the words, as a struct keeps them.
use Rattle.std.specs.Prelude.{◌≡◌, Option, List}
use Rattle.std.specs.List.{flat_map}
use Rattle.std.specs.Option.{option_map, option_to_list}
use Rattle.std.specs.Borrow.{Bor}
use Rattle.meek_words.specs.Numerals.{Word}
use Rattle.check_words.specs.Pairs.{Said, words_of, values_of}
use Rattle.check_words.specs.declared.check_option.CheckOption.{CheckOption}
use Rattle.check_words.specs.declared.check_option.CheckOption.TheVariants as options
use Rattle.check_words.specs.declared.values.Values.{Values}

-- one word or none
abbrev pub words_in : Option (Bor Word) → List Word
words_in value = option_to_list (option_map (λ text. text.now) value)

abbrev pub values_in : Values → CheckOption → List Word
values_in values options.Lots = words_in values.lots
values_in values options.Rule = words_in values.rule
values_in values options.Places = words_in values.places
values_in values options.Omega = words_in values.omega

-- The words are pairs, and these are their values.
pub record AreValuesOf (words : List Word) (values : Values) : Type 0 where
  pub pairs : List Said
  pub spelled : words ≡ flat_map words_of pairs
  pub are : (option : CheckOption) → values_in values option ≡ values_of pairs option
