-- Fields that are short numbers.
use Rattle.std.specs.Prelude.{◌≡◌, ◌≤◌, ◌⊎◌, ℕ, ◌+◌, ◌-◌, ◌*◌, ◌&&◌, nat_le, Bool, if◌then◌else◌, List, [], ◌∷◌, Option, Some, None}
use Rattle.table_text.specs.declared.short.TheConstants.{NO_NUMBER}

abbrev pub is_digit : ℕ → Bool
is_digit b = nat_le 48 b && nat_le b 57

-- a digit with which a number begins: no 0
abbrev pub is_first : ℕ → Bool
is_first b = nat_le 49 b && nat_le b 57

-- The number that a field of at most two digits is, as numbers are mostly written. An empty field is 0, and any other is none.
abbrev pub short_number : List ℕ → Option ℕ
short_number [] = Some 0
short_number (a ∷ []) = if is_first a then Some (a - 48) else None
short_number (a ∷ b ∷ []) = if is_first a && is_digit b then Some ((a - 48) * 10 + (b - 48)) else None
short_number (a ∷ b ∷ c ∷ bytes) = None

-- the same in one number
abbrev pub number_or_none : Option ℕ → ℕ
number_or_none None = NO_NUMBER
number_or_none (Some n) = n

-- ---- what the code finds of two bytes

pub record IsDigit (b : ℕ) : Type 0 where
  pub least : 48 ≤ b
  pub most : b ≤ 57

-- a digit that is no 0
pub record IsFirst (b : ℕ) : Type 0 where
  pub least : 49 ≤ b
  pub most : b ≤ 57

-- neither a digit nor the quote
pub record StandsApart (separator : ℕ) : Type 0 where
  pub no_quote : ¬ (separator ≡ 34)
  pub no_digit : ¬ IsDigit separator

-- no number; or one of one digit; or one of two
pub record IsNone (found : ℕ × ℕ) : Type 0 where
  pub digits : found.0 ≡ 0
  pub number : found.1 ≡ 0

pub record IsOne (a : ℕ) (found : ℕ × ℕ) : Type 0 where
  pub digits : found.0 ≡ 1
  pub number : found.1 ≡ a - 48
  pub first : IsFirst a

pub record AreTwo (a b : ℕ) (found : ℕ × ℕ) : Type 0 where
  pub digits : found.0 ≡ 2
  pub number : found.1 ≡ (a - 48) * 10 + (b - 48)
  pub first : IsFirst a
  pub second : IsDigit b

abbrev pub AreDigits : (a b : ℕ) → ℕ × ℕ → Type 0
AreDigits a b found = IsNone found ⊎ (IsOne a found ⊎ AreTwo a b found)
