-- Words that are one option and its number. A word is a list of bytes.
use Rattle.std.specs.Prelude.{◌≡◌, ℕ, List, [], ◌∷◌}
use Rattle.meek_words.specs.Numerals.{Word}
use Rattle.number_word.specs.Number.{Says}

-- just two words, the option and a numeral of a number from 1 to the greatest
abbrev pub TakesNumber : (option : Word) → (greatest : ℕ) → List Word → ℕ → Type 0
TakesNumber option greatest words n = (word : Word) × (words ≡ option ∷ word ∷ []) × Says greatest word n

-- Words have one number at most.
abbrev pub HaveOneNumber : Type 0
HaveOneNumber =
    (option : Word) (greatest : ℕ) (words : List Word) (one other : ℕ) → TakesNumber option greatest words one
    → TakesNumber option greatest words other → one ≡ other
