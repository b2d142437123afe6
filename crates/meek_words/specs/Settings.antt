-- Options that have a default.
use Rattle.std.specs.Prelude.{◌≡◌, ℕ, List, [], ◌∷◌}
use Rattle.meek_words.specs.Numerals.{Word, IsNumeralUpTo, number_of}

-- at most once a numeral from 1 to the greatest, else the default
abbrev pub IsSetting : ℕ → ℕ → List Word → ℕ → Type 0
IsSetting greatest default [] n = n ≡ default
IsSetting greatest default (word ∷ []) n = IsNumeralUpTo greatest word × (n ≡ number_of word)
IsSetting greatest default (word ∷ again ∷ words) n = ⊥
