-- The words that tools take. A word is a list of bytes.
use Rattle.std.specs.Prelude.{◌≡◌, List, ℕ, [], ◌∷◌, codes, Result, Ok, Err}
use Rattle.meek_words.specs.Numerals.{Word, IsLotList}
use Rattle.meek_words.specs.declared.words_stop.WordsStop.{WordsStop}
use Rattle.meek_words.specs.declared.words_stop.WordsStop.TheVariants.{BadWords, NoMemory}

-- no word at all
abbrev pub TakesNothing : {A : Type 0} → List Word → A → Type 0
TakesNothing words asked = words ≡ []

-- just two words, `--lots` and a list of lots
abbrev pub TakesLots : List Word → List ℕ → Type 0
TakesLots words lots = (word : Word) × (words ≡ codes "--lots" ∷ word ∷ []) × IsLotList word lots

-- The words ask for this, or they ask for nothing that is taken. Want of memory says nothing of them.
abbrev pub IsAsked : {A : Type 0} → (Takes : List Word → A → Type 0) → List Word → Result A WordsStop → Type 0
IsAsked Takes words (Ok asked) = Takes words asked
IsAsked {A} Takes words (Err BadWords) = (asked : A) → ¬ Takes words asked
IsAsked Takes words (Err NoMemory) = Unit {0}
