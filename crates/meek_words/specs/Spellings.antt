-- What one word is by its spelling.
use Rattle.std.specs.Prelude.{◌≡◌, ◌≢◌, ◌∷◌, ◌++◌}
use Rattle.meek_words.specs.Numerals.{Word}
use Rattle.meek_words.specs.Parts.{flag_of}
use Rattle.meek_words.specs.declared.option_name.OptionName.{OptionName}
use Rattle.meek_words.specs.declared.spelling.Spelling.{Spelling}
use Rattle.meek_words.specs.declared.spelling.Spelling.TheVariants.{OneWord, FirstOfTwo, Plain}

-- the word is an option with its value, or an option without one, or neither of these
abbrev pub IsSpelled : Word → Spelling → Type 0
IsSpelled word (OneWord name value) = word ≡ flag_of name ++ 61 ∷ value.now
IsSpelled word (FirstOfTwo name) = word ≡ flag_of name
IsSpelled word Plain =
    ((name : OptionName) → word ≢ flag_of name)
    × ((name : OptionName) (value : Word) → word ≢ flag_of name ++ 61 ∷ value)
