-- Words as pairs of an option and its value.
use Rattle.std.specs.Prelude.{◌≡◌, ◌≢◌, List, [], ◌∷◌, map, All}
use Rattle.std.specs.List.{filter, flat_map}
use Rattle.meek_words.specs.Numerals.{Word}
use Rattle.import_words.specs.Options.{flag_of, is_column, same_option}
use Rattle.import_words.specs.declared.import_option.ImportOption.{ImportOption}
use Rattle.import_words.specs.declared.import_option.ImportOption.TheVariants as options

-- an option, and the word after it
pub record Said : Type 0 where
  pub option : ImportOption
  pub value : Word

abbrev pub words_of : Said → List Word
words_of said = flag_of said.option ∷ said.value ∷ []

-- the words are these pairs one after another, and no value is empty
pub record ArePairs (words : List Word) (pairs : List Said) : Type 0 where
  pub spelled : words ≡ flat_map words_of pairs
  pub values : All (λ said. said.value ≢ []) pairs

-- the values of an option, in order
abbrev pub values_of : ImportOption → List Said → List Word
values_of option pairs = map (λ said. said.value) (filter (λ said. same_option option said.option) pairs)

-- the heads of columns of weights and of the ignored ones, in order
abbrev pub columns_of : List Said → List Word
columns_of pairs = map (λ said. said.value) (filter (λ said. is_column said.option) pairs)

-- the values of each option
pub record Given : Type 0 where
  pub layout : List Word
  pub seats : List Word
  pub title : List Word
  pub withdrawn : List Word
  pub output : List Word
  pub equal : List Word
  pub skipped : List Word
  pub empty : List Word
  pub separator : List Word
  pub weight : List Word
  pub ignored : List Word
  pub columns : List Word
  pub chosen : List Word
  pub blanks : List Word
  pub names : List Word
  pub ranks : List Word
  pub candidates : List Word
  pub overs : List Word
  pub repeated : List Word
  pub head : List Word

abbrev pub given_of : List Said → Given
given_of pairs = record {
  layout = values_of options.Layout pairs;
  seats = values_of options.Seats pairs;
  title = values_of options.Title pairs;
  withdrawn = values_of options.Withdrawn pairs;
  output = values_of options.As pairs;
  equal = values_of options.Equal pairs;
  skipped = values_of options.Skipped pairs;
  empty = values_of options.Empty pairs;
  separator = values_of options.Separator pairs;
  weight = values_of options.Weight pairs;
  ignored = values_of options.Ignore pairs;
  columns = columns_of pairs;
  chosen = values_of options.Columns pairs;
  blanks = values_of options.Blank pairs;
  names = values_of options.Names pairs;
  ranks = values_of options.Ranks pairs;
  candidates = values_of options.Candidate pairs;
  overs = values_of options.Over pairs;
  repeated = values_of options.Repeated pairs;
  head = values_of options.Head pairs;
}
