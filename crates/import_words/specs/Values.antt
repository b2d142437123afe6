-- The values of the words, as a struct keeps them.
use Rattle.std.specs.Prelude.{◌≡◌, Option, List, map}
use Rattle.std.specs.Option.{option_map, option_to_list}
use Rattle.std.specs.Borrow.{Bor}
use Rattle.meek_words.specs.Numerals.{Word}
use Rattle.import_words.specs.Pairs.{Given, Said, values_of}
use Rattle.import_words.specs.declared.import_option.ImportOption.TheVariants as options
use Rattle.import_words.specs.declared.pair.Pair.{Pair}
use Rattle.import_words.specs.declared.single_values.SingleValues.{SingleValues}
use Rattle.import_words.specs.declared.values.Values.{Values}

abbrev pub said_in : Pair → Said
said_in pair = record { option = pair.option; value = pair.value.now }

abbrev pub pairs_in : List Pair → List Said
pairs_in pairs = map said_in pairs

-- one word or none
abbrev pub words_in : Option (Bor Word) → List Word
words_in value = option_to_list (option_map (λ text. text.now) value)

abbrev pub texts_in : List (Bor Word) → List Word
texts_in texts = map (λ text. text.now) texts

abbrev pub given_by : Values → Given
given_by values = record {
  layout = words_in values.layout;
  seats = words_in values.seats;
  title = words_in values.title;
  withdrawn = words_in values.withdrawn;
  output = words_in values.output;
  equal = words_in values.equal;
  skipped = words_in values.skipped;
  empty = words_in values.empty;
  separator = words_in values.separator;
  weight = words_in values.weight;
  ignored = texts_in values.ignored.items;
  columns = texts_in values.columns.items;
  chosen = words_in values.chosen;
  blanks = texts_in values.blanks.items;
  names = words_in values.names;
  ranks = words_in values.ranks;
  candidates = texts_in values.candidates.items;
  overs = texts_in values.overs.items;
  repeated = words_in values.repeated;
  head = words_in values.head;
}

-- the values of the options that have one at most are those of these pairs
pub record AreSingle (values : SingleValues) (pairs : List Said) : Type 0 where
  pub layout : words_in values.layout ≡ values_of options.Layout pairs
  pub seats : words_in values.seats ≡ values_of options.Seats pairs
  pub title : words_in values.title ≡ values_of options.Title pairs
  pub withdrawn : words_in values.withdrawn ≡ values_of options.Withdrawn pairs
  pub output : words_in values.output ≡ values_of options.As pairs
  pub equal : words_in values.equal ≡ values_of options.Equal pairs
  pub skipped : words_in values.skipped ≡ values_of options.Skipped pairs
  pub empty : words_in values.empty ≡ values_of options.Empty pairs
  pub separator : words_in values.separator ≡ values_of options.Separator pairs
  pub weight : words_in values.weight ≡ values_of options.Weight pairs
  pub names : words_in values.names ≡ values_of options.Names pairs
  pub ranks : words_in values.ranks ≡ values_of options.Ranks pairs
  pub repeated : words_in values.repeated ≡ values_of options.Repeated pairs
  pub head : words_in values.head ≡ values_of options.Head pairs
  pub chosen : words_in values.chosen ≡ values_of options.Columns pairs
