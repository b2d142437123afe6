-- What each of the 256 bytes makes of a text, worked by hand: where a token may begin, right after a token, in a string
-- and in a comment.
use Rattle.std.specs.Prelude.{◌≡◌, ℕ, List, [], ◌∷◌, ◌++◌, true, false, map, replicate, codes}
use Rattle.std.specs.List.{range_with_len}
use Rattle.input_text.specs.declared.fault_kind.FaultKind.TheVariants.{BadByte, Ended}
use Rattle.input_text.specs.Token.{Item, Number, Text, Word, AtEnd, AtFault, Scan, ends, with_front}
use Rattle.input_text.specs.Scan.{scan}

-- the texts of each byte, one after another
abbrev pub of_each : (ℕ → Scan) → List Scan
of_each f = map f (range_with_len 0 256)

-- nothing up to the end
abbrev pub nothing : (len : ℕ) → Scan
nothing len = ends (AtEnd len)

-- a token at the front and nothing after it
abbrev pub one : Item → (len : ℕ) → Scan
one item len = with_front (record { at = 0; item = item }) (nothing len)

abbrev pub wrong : (at : ℕ) → Scan
wrong at = ends (AtFault (record { kind = BadByte; at = at }))

abbrev pub unclosed : (len : ℕ) → Scan
unclosed len = ends (AtFault (record { kind = Ended; at = len }))

-- the digits as numbers from here on
abbrev pub numbers_from : (first len : ℕ) → List Scan
numbers_from first len = map (λ n. one (Number n) len) (range_with_len first 10)

-- Tab, line feed, carriage return and space are passed over, and so is a '#' with the rest of its line. Digits and, in day
-- files, small letters are tokens. A quote opens a string, and a '-' wants digits. Nothing else begins a token.
abbrev pub AtTheStart : Type 0
AtTheStart =
    of_each (λ b. scan (b ∷ []) true)
    ≡ replicate 9 (wrong 0) ++ replicate 2 (nothing 1) ++ replicate 2 (wrong 0) ++ replicate 1 (nothing 1)
    ++ replicate 18 (wrong 0) ++ replicate 1 (nothing 1) ++ replicate 1 (wrong 0) ++ replicate 1 (unclosed 1)
    ++ replicate 1 (nothing 1) ++ replicate 12 (wrong 0) ++ numbers_from 0 1 ++ replicate 39 (wrong 0)
    ++ map (λ b. one (Word (b ∷ [])) 1) (range_with_len 97 26) ++ replicate 133 (wrong 0)

-- The same where there may be no words.
abbrev pub AtTheStartWithoutWords : Type 0
AtTheStartWithoutWords =
    of_each (λ b. scan (b ∷ []) false)
    ≡ replicate 9 (wrong 0) ++ replicate 2 (nothing 1) ++ replicate 2 (wrong 0) ++ replicate 1 (nothing 1)
    ++ replicate 18 (wrong 0) ++ replicate 1 (nothing 1) ++ replicate 1 (wrong 0) ++ replicate 1 (unclosed 1)
    ++ replicate 1 (nothing 1) ++ replicate 12 (wrong 0) ++ numbers_from 0 1 ++ replicate 198 (wrong 0)

-- After a number stands a separator, a '#' or a further digit.
abbrev pub BehindANumber : Type 0
BehindANumber =
    of_each (λ b. scan (codes "1" ++ b ∷ []) true)
    ≡ replicate 9 (wrong 1) ++ replicate 2 (one (Number 1) 2) ++ replicate 2 (wrong 1) ++ replicate 1 (one (Number 1) 2)
    ++ replicate 18 (wrong 1) ++ replicate 1 (one (Number 1) 2) ++ replicate 2 (wrong 1) ++ replicate 1 (one (Number 1) 2)
    ++ replicate 12 (wrong 1) ++ numbers_from 10 2 ++ replicate 198 (wrong 1)

-- After a string stands a separator or a '#'.
abbrev pub BehindAString : Type 0
BehindAString =
    of_each (λ b. scan (codes "\"\"" ++ b ∷ []) true)
    ≡ replicate 9 (wrong 2) ++ replicate 2 (one (Text []) 3) ++ replicate 2 (wrong 2) ++ replicate 1 (one (Text []) 3)
    ++ replicate 18 (wrong 2) ++ replicate 1 (one (Text []) 3) ++ replicate 2 (wrong 2) ++ replicate 1 (one (Text []) 3)
    ++ replicate 220 (wrong 2)

-- In a string stands each byte from the space on but for the quote, which closes it.
abbrev pub InAString : Type 0
InAString =
    of_each (λ b. scan (codes "\"" ++ b ∷ codes "\"") true)
    ≡ replicate 32 (wrong 1) ++ map (λ b. one (Text (b ∷ [])) 3) (range_with_len 32 2) ++ replicate 1 (wrong 2)
    ++ map (λ b. one (Text (b ∷ [])) 3) (range_with_len 35 221)

-- In a comment stands each byte but line feed and carriage return, which end it: the 1 after these is a number.
abbrev pub InAComment : Type 0
InAComment =
    let number_behind : Scan = with_front (record { at = 2; item = Number 1 }) (nothing 3) in
    of_each (λ b. scan (codes "#" ++ b ∷ codes "1") true)
    ≡ replicate 10 (nothing 3) ++ replicate 1 number_behind ++ replicate 2 (nothing 3) ++ replicate 1 number_behind
    ++ replicate 242 (nothing 3)

-- A byte order mark is passed over once, and only at the front.
pub record Marks : Type 0 where
  pub twice : scan (0xEF ∷ 0xBB ∷ 0xBF ∷ 0xEF ∷ 0xBB ∷ 0xBF ∷ codes "1") true ≡ wrong 3
  pub late : scan (codes " " ++ 0xEF ∷ 0xBB ∷ 0xBF ∷ []) true ≡ wrong 1
