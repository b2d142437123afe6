-- A reader of tokens: what it has still to give.
use Rattle.std.specs.Prelude.{◌≡◌, ◌<◌, ◌≤◌, ℕ, ◌+◌, ◌-◌, List, length, drop, slice_range}
use Rattle.std.specs.List.{AllPass, prefix_len}
use Rattle.std.specs.Char.{is_ascii_digit, is_ascii_lowercase}
use Rattle.input_text.specs.Scan.{is_in_string}
use Rattle.input_text.specs.declared.what.What.{What}
use Rattle.input_text.specs.declared.what.What.TheVariants as what
use Rattle.input_text.specs.declared.token.Token.{Token}
use Rattle.input_text.specs.declared.next.Next.{Next}
use Rattle.input_text.specs.declared.next.Next.TheVariants as next
use Rattle.input_text.specs.Token.{Item, Number, Minus, Text, Word, Placed, AtEnd, AtFault, Scan, ends, with_front}

-- the whole input, and what is still to come of it
pub record Reader : Type 0 where
  pub bytes : List ℕ
  pub rest : Scan

-- what a token of these bytes says
abbrev pub said : List ℕ → ℕ → ℕ → What → Item
said bytes at stop (what.Number n) = Number n
said bytes at stop (what.Minus n) = Minus n
said bytes at stop what.Text = Text (slice_range bytes (at + 1) (stop - 1))
said bytes at stop what.Word = Word (slice_range bytes at stop)

abbrev pub placed : List ℕ → Token → Placed
placed bytes token = record { at = token.at; item = said bytes token.at token.stop token.what }

-- What was still to come was this answer, and then the rest. An end and a fault stay.
abbrev pub Gives : List ℕ → Scan → Next → Scan → Type 0
Gives bytes old (next.Token token) new = old ≡ with_front (placed bytes token) new
Gives bytes old next.End new = (old ≡ ends (AtEnd (length bytes))) × (new ≡ old)
Gives bytes old (next.Fault fault) new = (old ≡ ends (AtFault fault)) × (new ≡ old)

-- a string or a word of these bytes
abbrev pub IsTextAt : List ℕ → ℕ → ℕ → What → Type 0
IsTextAt bytes at stop (what.Number n) = ⊥
IsTextAt bytes at stop (what.Minus n) = ⊥
IsTextAt bytes at stop what.Text = (at + 1 < stop) × (stop ≤ length bytes) × AllPass is_in_string (slice_range bytes (at + 1) (stop - 1))
IsTextAt bytes at stop what.Word = (at ≤ stop) × (stop ≤ length bytes) × AllPass is_ascii_lowercase (slice_range bytes at stop)

abbrev pub IsTextOf : List ℕ → Token → Type 0
IsTextOf bytes token = IsTextAt bytes token.at token.stop token.what

-- A token of these bytes goes from its first byte up to where it stops: a number stops after the last of its digits, and
-- a string and a word are those bytes.
abbrev pub IsTokenAt : List ℕ → ℕ → ℕ → What → Type 0
IsTokenAt bytes at stop (what.Number n) = stop ≡ at + prefix_len is_ascii_digit (drop at bytes)
IsTokenAt bytes at stop (what.Minus n) = stop ≡ at + 1 + prefix_len is_ascii_digit (drop (at + 1) bytes)
IsTokenAt bytes at stop what.Text = IsTextAt bytes at stop what.Text
IsTokenAt bytes at stop what.Word = IsTextAt bytes at stop what.Word

-- a token that was given is in the bytes
abbrev pub GivesToken : List ℕ → Next → Type 0
GivesToken bytes (next.Token token) = IsTokenAt bytes token.at token.stop token.what
GivesToken bytes other = Unit {0}

-- the token says this text
abbrev pub says : Item → List ℕ → Type 0
says (Number n) text = ⊥
says (Minus n) text = ⊥
says (Text bytes) text = text ≡ bytes
says (Word letters) text = text ≡ letters

abbrev pub IsSaid : List ℕ → Token → List ℕ → Type 0
IsSaid bytes token text = says (said bytes token.at token.stop token.what) text
