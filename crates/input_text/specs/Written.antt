-- Texts that are written from items, each item with a separator after it.
use Rattle.std.specs.Prelude.{◌≡◌, ℕ, ◌+◌, ◌<◌, ◌≤◌, ⊤, List, [], ◌∷◌, ◌++◌, length, Bool, true, decimal}
use Rattle.std.specs.Char.{is_ascii_digit, is_ascii_lowercase}
use Rattle.input_text.specs.Token.{Item, Number, Text, Word, AtEnd, Scan}
use Rattle.input_text.specs.Scan.{is_separator, is_in_string, number, cut, scan, mark_len}
use Rattle.input_text.specs.Refusal.{items_of}

-- Wherever it stands, the text is cut into these items, and what is after it is cut as by itself.
pub record Spells (bytes : List ℕ) (items : List Item) : Type 0 where
  pub items_are : (at : ℕ) (rest : List ℕ) → items_of (cut true at 0 (bytes ++ rest)).tokens ≡ items ++ items_of (cut true (at + length bytes) 0 rest).tokens
  pub ending : (at : ℕ) (rest : List ℕ) → (cut true at 0 (bytes ++ rest)).ending ≡ (cut true (at + length bytes) 0 rest).ending

-- each byte passes the test
abbrev pub Each : (ℕ → Bool) → List ℕ → Type 0
Each p [] = ⊤
Each p (b ∷ bytes) = (p b ≡ true) × Each p bytes

-- The whole text is cut into these items, without a fault.
pub record IsWhole (text : Scan) (items : List Item) : Type 0 where
  pub items_are : items_of text.tokens ≡ items
  pub at : ℕ
  pub ending : text.ending ≡ AtEnd at

-- ---- laws

-- A number in decimal with a separator after it is read as this number.
abbrev pub NumbersAreRead : Type 0
NumbersAreRead = (n s : ℕ) → n ≤ 4294967295 → is_separator s ≡ true → Spells (decimal n ++ s ∷ []) (Number n ∷ [])

-- Digits with a separator after them are read as their number.
abbrev pub DigitsAreRead : Type 0
DigitsAreRead =
    (digits : List ℕ) (s n : ℕ) → 0 < length digits → Each is_ascii_digit digits → number digits ≡ n → is_separator s ≡ true
    → Spells (digits ++ s ∷ []) (Number n ∷ [])

-- Small letters with a separator after them are read as a word.
abbrev pub WordsAreRead : Type 0
WordsAreRead =
    (b : ℕ) (letters : List ℕ) (s : ℕ) → Each is_ascii_lowercase (b ∷ letters) → is_separator s ≡ true
    → Spells ((b ∷ letters) ++ s ∷ []) (Word (b ∷ letters) ∷ [])

-- Bytes between quotes with a separator after them are read as a string.
abbrev pub StringsAreRead : Type 0
StringsAreRead =
    (bytes : List ℕ) (s : ℕ) → Each is_in_string bytes → is_separator s ≡ true → Spells (34 ∷ (bytes ++ 34 ∷ s ∷ [])) (Text bytes ∷ [])

-- Texts after one another are read as the items of the one and then those of the other.
abbrev pub PartsFollow : Type 0
PartsFollow = (one other : List ℕ) (items more : List Item) → Spells one items → Spells other more → Spells (one ++ other) (items ++ more)

abbrev pub NothingIsRead : Type 0
NothingIsRead = Spells [] []

-- A text without a byte order mark that is written from items is a whole text of them.
abbrev pub WholeIsRead : Type 0
WholeIsRead = (bytes : List ℕ) (items : List Item) → mark_len bytes ≡ 0 → Spells bytes items → IsWhole (scan bytes true) items
