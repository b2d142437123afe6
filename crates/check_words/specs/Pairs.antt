-- Words as pairs of an option and its value.
use Rattle.std.specs.Prelude.{if◌then◌else◌, List, [], ◌∷◌, ◌++◌}
use Rattle.meek_words.specs.Numerals.{Word}
use Rattle.check_words.specs.Options.{flag_of, same_option}
use Rattle.check_words.specs.declared.check_option.CheckOption.{CheckOption}

-- an option, and the word after it
pub record Said : Type 0 where
  pub option : CheckOption
  pub value : Word

abbrev pub words_of : Said → List Word
words_of said = flag_of said.option ∷ said.value ∷ []

-- a value of one option is none of another
abbrev pub only_at : CheckOption → Word → CheckOption → List Word
only_at option value other = if same_option option other then value ∷ [] else []

-- the values of an option, in order
abbrev pub values_of : List Said → CheckOption → List Word
values_of [] option = []
values_of (said ∷ pairs) option = only_at said.option said.value option ++ values_of pairs option
