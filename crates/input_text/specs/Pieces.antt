-- The pieces that the code gives, as the pieces of a text.
use Rattle.std.specs.Prelude.{◌≡◌, ◌<◌, ◌≤◌, ℕ, List}
use Rattle.input_text.specs.declared.pieces.Piece.{Piece}
use Rattle.input_text.specs.declared.pieces.Piece.TheVariants as code
use Rattle.input_text.specs.Scan as scan
use Rattle.input_text.specs.Reader.{said, IsTokenAt}

abbrev pub seen : List ℕ → Piece → scan.Piece
seen bytes (code.Gap n) = scan.Gap n
seen bytes (code.Lexeme what n) = scan.Lexeme (said bytes 0 n what) n
seen bytes (code.Wrong n) = scan.Wrong n
seen bytes (code.Unclosed n) = scan.Unclosed n

-- it lies within a text of so many bytes, and what is passed over isn't empty
abbrev pub IsWithin : ℕ → Piece → Type 0
IsWithin len (code.Gap n) = (0 < n) × (n ≤ len)
IsWithin len (code.Lexeme what n) = (0 < n) × (n ≤ len)
IsWithin len (code.Wrong n) = n ≤ len
IsWithin len (code.Unclosed n) = n ≡ len

-- a token is at the front of the bytes
abbrev pub HoldsToken : List ℕ → Piece → Type 0
HoldsToken bytes (code.Lexeme what n) = IsTokenAt bytes 0 n what
HoldsToken bytes other = Unit {0}
