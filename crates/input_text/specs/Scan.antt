-- How a text is cut into tokens.
use Rattle.std.specs.Prelude.{ℕ, ◌+◌, ◌-◌, zero, suc, min, List, [], ◌∷◌, take, drop, Bool, true, not, ◌&&◌, ◌||◌, ◌==◌, if◌then◌else◌, nat_le, nat_eq}
use Rattle.std.specs.List.{take_while, prefix_len, starts_with}
use Rattle.std.specs.Char.{is_ascii_digit, is_ascii_lowercase}
use Rattle.std.specs.Str.Parse.{digits_value}
use Rattle.input_text.specs.declared.fault_kind.FaultKind.TheVariants.{BadByte, Ended}
use Rattle.input_text.specs.Token.{Item, Number, Minus, Text, Word, AtEnd, AtFault, Scan, ends, with_front}

-- tab, line feed, carriage return, space
abbrev pub is_separator : ℕ → Bool
is_separator b = b == 9 || b == 10 || b == 13 || b == 32

-- a byte of a comment after its '#'
abbrev pub is_in_line : ℕ → Bool
is_in_line b = not (b == 10 || b == 13)

-- a byte between the quotes of a string
abbrev pub is_in_string : ℕ → Bool
is_in_string b = nat_le 32 b && not (b == 34)

-- the value of digits, where a value past 32 bits counts as the greatest of 32 bits
abbrev pub number : List ℕ → ℕ
number digits = min (digits_value 10 digits) 4294967295

-- a byte that may stand right after a token
abbrev pub may_end : ℕ → Bool
may_end b = is_separator b || b == 35

-- A separator, a '#' or the end is at the front.
abbrev pub may_follow : List ℕ → Bool
may_follow [] = true
may_follow (b ∷ rest) = may_end b

-- What is at the front of a text: n bytes that belong to no token, a token of n bytes, a byte that may not
-- stand there after n others, or a string that is not closed within the n bytes up to the end.
pub data Piece : Type 0 where
  Gap : (n : ℕ) → Piece
  Lexeme : (item : Item) (n : ℕ) → Piece
  Wrong : (n : ℕ) → Piece
  Unclosed : (n : ℕ) → Piece

-- The first n bytes are a token if what is after them may follow one.
abbrev pub token : Item → ℕ → List ℕ → Piece
token item n bytes = if may_follow (drop n bytes) then Lexeme item n else Wrong n

-- a longest run of digits
unfoldable pub number_piece : List ℕ → Piece
number_piece bytes = token (Number (number (take_while is_ascii_digit bytes))) (prefix_len is_ascii_digit bytes) bytes

-- a '-', and digits right after it
unfoldable pub minus_piece : List ℕ → Piece
minus_piece behind =
    let n = prefix_len is_ascii_digit behind in
    if n == 0 then Wrong 0 else (if may_follow (drop n behind) then Lexeme (Minus (number (take_while is_ascii_digit behind))) (n + 1) else Wrong (n + 1))

-- A string goes up to the first byte that may not stand in one, and that has to be a quote.
abbrev pub closed_by : List ℕ → ℕ → List ℕ → Piece
closed_by behind n [] = Unclosed (n + 1)
closed_by behind n (b ∷ rest) = if b == 34 then (if may_follow rest then Lexeme (Text (take n behind)) (n + 2) else Wrong (n + 2)) else Wrong (n + 1)

unfoldable pub string_piece : List ℕ → Piece
string_piece behind = let n = prefix_len is_in_string behind in closed_by behind n (drop n behind)

-- a longest run of letters
unfoldable pub word_piece : List ℕ → Piece
word_piece bytes = token (Word (take_while is_ascii_lowercase bytes)) (prefix_len is_ascii_lowercase bytes) bytes

-- `letters` says whether the text may have words.
unfoldable pub piece : Bool → List ℕ → Piece
piece letters [] = Wrong 0
piece letters (b ∷ behind) =
    if is_separator b then Gap 1
    else (if b == 35 then Gap (1 + prefix_len is_in_line behind)
    else (if is_ascii_digit b then number_piece (b ∷ behind)
    else (if b == 45 then minus_piece behind
    else (if b == 34 then string_piece behind
    else (if letters && is_ascii_lowercase b then word_piece (b ∷ behind)
    else Wrong 0)))))

-- What a piece at this place gives, where the text goes on as `rest` says after its bytes.
abbrev pub beginning : ℕ → Piece → (ℕ → Scan) → Scan
beginning at (Gap n) rest = rest n
beginning at (Lexeme item n) rest = with_front (record { at = at; item = item }) (rest n)
beginning at (Wrong n) rest = ends (AtFault (record { kind = BadByte; at = at + n }))
beginning at (Unclosed n) rest = ends (AtFault (record { kind = Ended; at = at + n }))

-- The text from a place on. The first `skip` of its bytes belong to the piece before.
unfoldable pub cut : Bool → ℕ → ℕ → List ℕ → Scan
cut letters at skip [] = ends (AtEnd at)
cut letters at (suc skip) (b ∷ behind) = cut letters (at + 1) skip behind
cut letters at zero (b ∷ behind) = beginning at (piece letters (b ∷ behind)) (λ n. cut letters (at + 1) (n - 1) behind)

-- a byte order mark at the front is passed over
abbrev pub mark_len : List ℕ → ℕ
mark_len bytes = if starts_with nat_eq bytes (0xEF ∷ 0xBB ∷ 0xBF ∷ []) then 3 else 0

abbrev pub scan : List ℕ → Bool → Scan
scan bytes letters = cut letters 0 (mark_len bytes) bytes
