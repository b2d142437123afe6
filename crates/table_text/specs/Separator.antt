-- Which byte parts the fields of a table, as its head tells. 44 is the comma, 59 the semicolon, 9 the tab.
use Rattle.std.specs.Prelude.{ℕ, ◌+◌, Bool, false, not, ◌==◌, ◌||◌, if◌then◌else◌, List, [], ◌∷◌, Option, Some, None, Result, Ok, Err}
use Rattle.table_text.specs.declared.text_kind.TextKind.TheVariants.{UnclearSeparator}
use Rattle.table_text.specs.declared.text_fault.TextFault.{TextFault}
use Rattle.table_text.specs.declared.head_byte.HeadByte.{HeadByte}
use Rattle.table_text.specs.declared.head_byte.HeadByte.TheVariants.{Quote, Ends, MayPart, Other}
use Rattle.table_text.specs.declared.head_byte.TheConstants.{COMMA}
use Rattle.table_text.specs.Reading.{next_count}

abbrev pub may_part : ℕ → Bool
may_part b = b == 44 || b == 59 || b == 9

-- what a byte of a head does
abbrev pub head_byte : (is_quoted : Bool) → ℕ → HeadByte
head_byte is_quoted b =
    if b == 34 then Quote
    else if is_quoted then Other
    else if b == 10 || b == 13 then Ends
    else if may_part b then MayPart
    else Other

-- a byte at a place
pub record Seen : Type 0 where
  pub at : ℕ
  pub byte : ℕ

-- what stands from a byte on, where the head goes on so
abbrev pub seen : HeadByte → (is_quoted : Bool) → Seen → (Bool → List Seen) → List Seen
seen Quote is_quoted byte next = next (not is_quoted)
seen Ends is_quoted byte next = []
seen MayPart is_quoted byte next = byte ∷ next is_quoted
seen Other is_quoted byte next = next is_quoted

-- The bytes of the head outside quotes that may part its fields. The head goes up to its first line end outside quotes, where
-- each quote goes into quotes or out of them.
unfoldable pub parting : (is_quoted : Bool) → (at : ℕ) → List ℕ → List Seen
parting is_quoted at [] = []
parting is_quoted at (b ∷ rest) =
    seen (head_byte is_quoted b) is_quoted (record { at = at; byte = b }) (λ next. parting next (at + 1) rest)

-- the kind that was seen, if one was
abbrev pub kind_or_comma : Option ℕ → ℕ
kind_or_comma None = COMMA
kind_or_comma (Some kind) = kind

abbrev pub is_unlike : Option ℕ → ℕ → Bool
is_unlike None b = false
is_unlike (Some kind) b = not (kind == b)

-- One kind of them is the separator, and where there is none it is the comma. A byte of a second kind is unclear; its column
-- is one more than how many stand before it.
abbrev pub one_kind : (kind : Option ℕ) → (before : ℕ) → List Seen → Result ℕ TextFault
one_kind kind before [] = Ok (kind_or_comma kind)
one_kind kind before (byte ∷ bytes) =
    if is_unlike kind byte.byte
    then Err (record { kind = UnclearSeparator; at = byte.at; row = 1; column = next_count before })
    else one_kind (Some byte.byte) (next_count before) bytes

abbrev pub separator_of : List ℕ → Result ℕ TextFault
separator_of bytes = one_kind None 0 (parting false 0 bytes)
