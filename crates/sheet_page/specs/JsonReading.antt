-- How a string of JSON is read (RFC 8259). 34 is the quote, 92 the backslash, and 117 is `u`.
use Rattle.std.specs.Prelude.{ℕ, ◌+◌, ◌-◌, ◌*◌, ◌==◌, ◌||◌, ◌&&◌, not, nat_lt, Bool, if◌then◌else◌, List, [], ◌∷◌, ◌++◌, Option, Some, None}

-- where a reader is: between two characters, after a backslash, or after `\u` and so many digits of the number, which give this so far
pub data Spot : Type 0 where
  Between : Spot
  BehindBackslash : Spot
  InNumber : (digits number : ℕ) → Spot

abbrev pub is_within : (first last b : ℕ) → Bool
is_within first last b = not (nat_lt b first) && not (nat_lt last b)

-- a digit of base 16: `0` to `9`, `A` to `F`, `a` to `f`
abbrev pub is_hex : ℕ → Bool
is_hex b = is_within 48 57 b || is_within 65 70 b || is_within 97 102 b

abbrev pub hex_value : ℕ → ℕ
hex_value b = if nat_lt b 58 then b - 48 else if nat_lt b 71 then b - 55 else b - 87

-- the letters after a backslash that stand for a byte: a quote, a backslash, a slash, and b, f, n, r, t
abbrev pub is_short : ℕ → Bool
is_short b = b == 34 || b == 92 || b == 47 || b == 98 || b == 102 || b == 110 || b == 114 || b == 116

abbrev pub short : ℕ → ℕ
short b =
    if b == 98 then 8
    else if b == 102 then 12
    else if b == 110 then 10
    else if b == 114 then 13
    else if b == 116 then 9
    else b

-- The text of a string with the bytes before this spot, and what is after its last quote. Nothing is read where a control byte, an
-- unknown escape or the end comes first; and this reader takes numbers of ASCII alone.
abbrev pub read_on : (text : List ℕ) → Spot → List ℕ → Option (List ℕ × List ℕ)
read_on text spot [] = None
read_on text Between (b ∷ rest) =
    if b == 34 then Some (text, rest)
    else if b == 92 then read_on text BehindBackslash rest
    else if nat_lt b 32 then None
    else read_on (text ++ b ∷ []) Between rest
read_on text BehindBackslash (b ∷ rest) =
    if b == 117 then read_on text (InNumber 0 0) rest
    else if is_short b then read_on (text ++ short b ∷ []) Between rest
    else None
read_on text (InNumber digits number) (b ∷ rest) =
    if not (is_hex b) then None
    else if nat_lt digits 3 then read_on text (InNumber (digits + 1) (number * 16 + hex_value b)) rest
    else if nat_lt (number * 16 + hex_value b) 128 then read_on (text ++ (number * 16 + hex_value b) ∷ []) Between rest
    else None

-- the text of a string, and what is after it
abbrev pub read_string : List ℕ → Option (List ℕ × List ℕ)
read_string [] = None
read_string (b ∷ rest) = if b == 34 then read_on [] Between rest else None
