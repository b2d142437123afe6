-- A text as its tokens, joined one after another with what is between them.
use Rattle.std.specs.Prelude.{◌≡◌, ℕ, ◌+◌, ◌≤◌, List, [], ◌∷◌, ◌++◌, length, drop, Bool, true, false}
use Rattle.std.specs.List.{AllPass}
use Rattle.std.specs.Char.{is_ascii_digit, is_ascii_lowercase}
use Rattle.input_text.specs.Token.{Item, Number, Minus, Text, Word, Placed, AtEnd}
use Rattle.input_text.specs.Scan.{is_separator, is_in_line, is_in_string, number, may_follow, mark_len, scan}

-- the bytes that spell a token
abbrev pub Spells : Item → List ℕ → Type 0
Spells (Number n) bytes = (1 ≤ length bytes) × AllPass is_ascii_digit bytes × (n ≡ number bytes)
Spells (Minus n) bytes =
    (digits : List ℕ) × (bytes ≡ 45 ∷ digits) × (1 ≤ length digits) × AllPass is_ascii_digit digits × (n ≡ number digits)
Spells (Text text) bytes = (bytes ≡ 34 ∷ (text ++ 34 ∷ [])) × AllPass is_in_string text
Spells (Word letters) bytes = (1 ≤ length letters) × AllPass is_ascii_lowercase letters × (bytes ≡ letters)

-- the end of a text, or of a line of it
abbrev pub IsLineEnd : List ℕ → Type 0
IsLineEnd [] = Unit {0}
IsLineEnd (b ∷ behind) = is_in_line b ≡ false

-- Nothing but separators and comments is before this rest of a text. A comment goes up to the end of its line.
pub data GoesOver (rest : List ℕ) : List ℕ → Type 0 where
  Nothing : GoesOver rest rest
  Separator : (b : ℕ) (behind : List ℕ) → is_separator b ≡ true → GoesOver rest behind → GoesOver rest (b ∷ behind)
  Comment :
      (line behind : List ℕ) → AllPass is_in_line line → IsLineEnd behind → GoesOver rest behind
      → GoesOver rest (35 ∷ (line ++ behind))

-- A text that ends at place `stop` goes, after separators and comments, on with the bytes of a token at its place, and
-- then with a rest that may follow a token.
pub record Begins (stop : ℕ) (token : Placed) (text bytes rest : List ℕ) : Type 0 where
  pub gap : GoesOver (bytes ++ rest) text
  pub spelling : Spells token.item bytes
  pub place : token.at + length (bytes ++ rest) ≡ stop
  pub parted : may_follow rest ≡ true

-- A text that ends at place `stop` is these tokens at their places, and nothing else but separators and comments.
abbrev pub IsText : (stop : ℕ) → List Placed → List ℕ → Type 0
IsText stop [] text = GoesOver [] text
IsText stop (token ∷ tokens) text =
    (bytes : List ℕ) × (rest : List ℕ) × Begins stop token text bytes rest × IsText stop tokens rest

-- What is cut up to its end is those tokens, after a byte order mark where one is at the front.
abbrev pub CutsToTokens : Type 0
CutsToTokens =
    (bytes : List ℕ) (letters : Bool) (tokens : List Placed) (end : ℕ)
    → scan bytes letters ≡ record { tokens = tokens; ending = AtEnd end }
    → IsText (length bytes) tokens (drop (mark_len bytes) bytes)
