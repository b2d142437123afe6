-- The forms of a command line.
use Rattle.std.specs.Prelude.{◌≡◌, ℕ, List, [], ◌∷◌, codes, All}
use Rattle.std.specs.List.{flat_map}
use Rattle.meek_trial.specs.declared.day.TheConstants.{MOST_TRIAL}
use Rattle.meek_words.specs.declared.limits.TheConstants.{MOST_SHARDS, MOST_WORKERS, SHARDS, WORKERS}
use Rattle.meek_words.specs.Numerals.{Word, IsNumeralUpTo, IsLotList, number_of}
use Rattle.meek_words.specs.Settings.{IsSetting}
use Rattle.meek_words.specs.Parts.{Part, Given, given_of, words_of, HasValue}
use Rattle.meek_words.specs.declared.command.Command.{Command}
use Rattle.meek_words.specs.declared.command.Command.TheVariants.{Count, Day, Trial}

-- just one word, of which P holds
abbrev pub IsOnce : (Word → Type 0) → List Word → Type 0
IsOnce P (word ∷ []) = P word
IsOnce P words = ⊥

-- up to 64 shards, if not said 8; up to 32 workers, if not said 4
pub record HasSettings (given : Given) (shards workers : ℕ) : Type 0 where
  pub shards_in : IsSetting MOST_SHARDS SHARDS given.shards shards
  pub workers_in : IsSetting MOST_WORKERS WORKERS given.workers workers

abbrev pub first_word : Command → Word
first_word (Count lots shards workers) = codes "count"
first_word (Day shards workers) = codes "day"
first_word (Trial number shards workers) = codes "trial"

-- what is after the first word says the rest of the command: `count` has its lots, `trial` a
-- number from 1 to 1,000, and none has anything else
abbrev pub Says : Command → Given → Type 0
Says (Count lots shards workers) given =
    HasSettings given shards workers
    × IsOnce (λ word. IsLotList word lots) given.lots × (given.plain ≡ [])
Says (Day shards workers) given =
    HasSettings given shards workers × (given.lots ≡ []) × (given.plain ≡ [])
Says (Trial number shards workers) given =
    HasSettings given shards workers × (given.lots ≡ [])
    × IsOnce (λ word. IsNumeralUpTo MOST_TRIAL word × (number ≡ number_of word)) given.plain

-- the words after the program's name have the form of this command
pub record HasForm (words : List Word) (command : Command) : Type 0 where
  pub parts : List Part
  pub spelled : words ≡ first_word command ∷ flat_map words_of parts
  pub values : All HasValue parts
  pub says : Says command (given_of parts)

-- words have at most one command
abbrev pub HaveOneCommand : Type 0
HaveOneCommand =
    (words : List Word) (one other : Command) → HasForm words one → HasForm words other
    → one ≡ other
