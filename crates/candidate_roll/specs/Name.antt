-- Names of candidates, and titles.
use Rattle.std.specs.Prelude.{ℕ, ◌<◌, ◌≤◌, ◌≢◌, List, length, take, slice_index, All}
use Rattle.candidate_roll.specs.declared.name_stop.NameStop.{NameStop}
use Rattle.candidate_roll.specs.declared.name_stop.NameStop.TheVariants.{TooLong, BadByte, NoMemory}

-- no control byte and no double quote, which is 34
abbrev pub IsPrintable : ℕ → Type 0
IsPrintable b = (32 ≤ b) × (b ≢ 34)

-- at most so many bytes, none of them a control byte or a quote
pub record IsName (most : ℕ) (bytes : List ℕ) : Type 0 where
  pub short : length bytes ≤ most
  pub printable : All (λ b. (32 ≤ b) × (b ≢ 34)) bytes

-- the first control byte or quote is at this place, from 0, and there are not too many bytes
pub record IsBadByteAt (most : ℕ) (bytes : List ℕ) (place : ℕ) : Type 0 where
  pub short : length bytes ≤ most
  pub inside : place < length bytes
  pub printable_before : All IsPrintable (take place bytes)
  pub not_printable : ¬ (IsPrintable (slice_index bytes place))

-- why bytes are no name; memory is wanted for a name alone
abbrev pub IsNameStop : ℕ → List ℕ → NameStop → Type 0
IsNameStop most bytes TooLong = most < length bytes
IsNameStop most bytes (BadByte place) = IsBadByteAt most bytes place
IsNameStop most bytes NoMemory = IsName most bytes
