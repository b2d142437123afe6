-- How the words after a command's first word are cut into options and plain words.
use Rattle.std.specs.Prelude.{◌≡◌, ◌≢◌, ◌≤◌, Bool, true, false, Option, Some, None}
use Rattle.std.specs.Prelude.{List, [], ◌∷◌, ◌++◌, length, codes, All, filter, map}
use Rattle.std.specs.List.{flat_map}
use Rattle.meek_words.specs.Numerals.{Word}
use Rattle.meek_words.specs.declared.option_name.OptionName.{OptionName}
use Rattle.meek_words.specs.declared.option_name.OptionName.TheVariants.{Lots, Shards, Workers}

-- an option's word without a value: two hyphens and its whole name
abbrev pub flag_of : OptionName → Word
flag_of Lots = codes "--lots"
flag_of Shards = codes "--shards"
flag_of Workers = codes "--workers"

-- an option with its value in one word, an option with its value in the next word, or a word that
-- belongs to no option
pub data Part : Type 0 where
  OneWord : (name : OptionName) (value : Word) → Part
  TwoWords : (name : OptionName) (value : Word) → Part
  Plain : (word : Word) → Part

-- how a part is spelled; 61 is the byte of an equals sign
abbrev pub words_of : Part → List Word
words_of (OneWord name value) = (flag_of name ++ 61 ∷ value) ∷ []
words_of (TwoWords name value) = flag_of name ∷ value ∷ []
words_of (Plain word) = word ∷ []

-- the option of a part, if it has one, and its value; a plain word is its own value
abbrev pub option_of : Part → Option OptionName
option_of (OneWord name value) = Some name
option_of (TwoWords name value) = Some name
option_of (Plain word) = None

abbrev pub value_of : Part → Word
value_of (OneWord name value) = value
value_of (TwoWords name value) = value
value_of (Plain word) = word

-- not empty, and without a hyphen (45) at the front
abbrev pub IsValue : Word → Type 0
IsValue [] = ⊥
IsValue (b ∷ rest) = b ≢ 45

abbrev pub HasValue : Part → Type 0
HasValue part = IsValue (value_of part)

-- ---- what the parts give

abbrev pub same_name : OptionName → OptionName → Bool
same_name Lots Lots = true
same_name Shards Shards = true
same_name Workers Workers = true
same_name _ _ = false

abbrev pub same_option : Option OptionName → Option OptionName → Bool
same_option (Some name) (Some other) = same_name name other
same_option None None = true
same_option _ _ = false

-- the values of an option, in order, or of no option, which are the plain words
abbrev pub values_of : Option OptionName → List Part → List Word
values_of option parts = map value_of (filter (λ part. same_option option (option_of part)) parts)

-- the words are these parts one after another; each has a value, and no option comes twice, nor do
-- two plain words
pub record AreParts (words : List Word) (parts : List Part) : Type 0 where
  pub spelled : words ≡ flat_map words_of parts
  pub values : All HasValue parts
  pub once : (option : Option OptionName) → length (values_of option parts) ≤ 1

-- the words are parts, in one way or another
abbrev pub AreSpelled : List Word → Type 0
AreSpelled words = (parts : List Part) × AreParts words parts

-- the values of each option, and the plain words
pub record Given : Type 0 where
  pub lots : List Word
  pub shards : List Word
  pub workers : List Word
  pub plain : List Word

abbrev pub given_of : List Part → Given
given_of parts = record {
  lots = values_of (Some Lots) parts;
  shards = values_of (Some Shards) parts;
  workers = values_of (Some Workers) parts;
  plain = values_of None parts;
}
