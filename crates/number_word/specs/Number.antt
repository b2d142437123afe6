-- One number, as a word writes it.
use Rattle.std.specs.Prelude.{◌≡◌, ℕ}
use Rattle.meek_words.specs.Numerals.{Word, IsNumeralUpTo, number_of}

-- the word is a numeral of this number, from 1 to the greatest
abbrev pub Says : (greatest : ℕ) → Word → ℕ → Type 0
Says greatest word n = IsNumeralUpTo greatest word × (n ≡ number_of word)
