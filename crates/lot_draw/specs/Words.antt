-- The words that ask for a draw.
use Rattle.std.specs.Prelude.{◌≡◌, ◌≢◌, ◌⊎◌, ◌≤◌, ◌+◌, ◌-◌, ℕ, All, List, [], ◌∷◌, length, get_or, codes}
use Rattle.plain_ballots.specs.declared.limits.TheConstants.{MOST_CANDIDATES}
use Rattle.meek_words.specs.Numerals.{Word, IsNumeralUpTo, number_of}

-- a seed, and how many candidates there are
pub record Asked : Type 0 where
  pub seed : List ℕ
  pub candidates : ℕ

-- the two options in either order, each with its value in the next word
abbrev pub AreOptions : List Word → (seed number : Word) → Type 0
AreOptions words seed number =
    (words ≡ codes "--seed" ∷ seed ∷ codes "--candidates" ∷ number ∷ [])
    ⊎ (words ≡ codes "--candidates" ∷ number ∷ codes "--seed" ∷ seed ∷ [])

-- a character of ASCII that is printed: a blank (32) or a sign that is seen
abbrev pub IsPrinted : (byte : ℕ) → Type 0
IsPrinted byte = (32 ≤ byte) × (byte ≤ 126)

-- a blank is at this place, and another after it
abbrev pub AreBlanks : List ℕ → (at : ℕ) → Type 0
AreBlanks bytes at = (get_or bytes at 0 ≡ 32) × (get_or bytes (at + 1) 0 ≡ 32)

-- A seed of 1 to 1,000 printed characters, with one blank between each two words. So two seeds that look alike are one.
pub record IsSeed (seed : Word) : Type 0 where
  pub some : 1 ≤ length seed
  pub short : length seed ≤ 1000
  pub printed : All IsPrinted seed
  pub begins : get_or seed 0 0 ≢ 32
  pub ends : get_or seed (length seed - 1) 0 ≢ 32
  pub apart : (at : ℕ) → ¬ AreBlanks seed at

-- the values of the options: a seed, and a number of candidates from 1 to 250
pub record Says (seed number : Word) (candidates : ℕ) : Type 0 where
  pub is_seed : IsSeed seed
  pub numeral : IsNumeralUpTo MOST_CANDIDATES number
  pub value : candidates ≡ number_of number

-- the words ask for a draw from this seed among so many candidates
pub record TakesDraw (words : List Word) (asked : Asked) : Type 0 where
  pub number : Word
  pub options : AreOptions words asked.seed number
  pub says : Says asked.seed number asked.candidates
