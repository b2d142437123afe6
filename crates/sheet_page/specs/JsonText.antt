-- Strings of JSON (RFC 8259). 34 is the quote, and 92 the backslash.
use Rattle.std.specs.Prelude.{ℕ, ◌+◌, ◌/◌, ◌%◌, ◌==◌, nat_lt, if◌then◌else◌, List, [], ◌∷◌, ◌++◌, codes}
use Rattle.page_tree.specs.Escaping.{readable, escaped}

-- a digit of base 16: 48 is `0`, and 97 is `a`
abbrev pub hex_digit : ℕ → ℕ
hex_digit n = if nat_lt n 10 then 48 + n else 87 + n

-- a byte within quotes: a quote or a backslash is after a backslash, and a control byte is written by its number
abbrev pub escape : ℕ → List ℕ
escape b =
    if b == 34 then codes "\\\""
    else if b == 92 then codes "\\\\"
    else if nat_lt b 32 then codes "\\u00" ++ hex_digit (b / 16) ∷ hex_digit (b % 16) ∷ []
    else b ∷ []

-- a text in quotes, in UTF-8, with the replacement sign for each piece that is none
abbrev pub string_text : List ℕ → List ℕ
string_text text = 34 ∷ (escaped escape (readable text) ++ 34 ∷ [])
