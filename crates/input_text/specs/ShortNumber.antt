-- Short numbers.
use Rattle.std.specs.Prelude.{◌≡◌, ℕ, ◌+◌, ◌-◌, ◌<◌, ◌≤◌, List, length, drop, slice_index, Bool, true}
use Rattle.std.specs.List.{prefix_len, take_while}
use Rattle.std.specs.Char.{is_ascii_digit}
use Rattle.input_text.specs.Scan.{is_separator, number, cut}
use Rattle.input_text.specs.Reader.{Reader}

-- digits, and a separator right after them: together so many bytes
pub record IsShortNumber (bytes : List ℕ) (n len : ℕ) : Type 0 where
  pub inside : len ≤ length bytes
  pub some : 1 < len
  pub run : len ≡ 1 + prefix_len is_ascii_digit bytes
  pub value : n ≡ number (take_while is_ascii_digit bytes)
  pub ends : is_separator (slice_index bytes (len - 1)) ≡ true

-- no number of at most so many bytes is there so
abbrev pub HasNoNumberWithin : ℕ → List ℕ → Type 0
HasNoNumberWithin most bytes = (n len : ℕ) → len ≤ most → ¬ IsShortNumber bytes n len

-- What is still to come comes from a place at which less than four bytes are left, or no such number stands.
pub record HasNoNumberAhead (most : ℕ) (reader : Reader) : Type 0 where
  pub letters : Bool
  pub at : ℕ
  pub inside : at ≤ length reader.bytes
  pub rest : reader.rest ≡ cut letters 0 at reader.bytes
  pub none : 3 < length (drop at reader.bytes) → HasNoNumberWithin most (drop at reader.bytes)
