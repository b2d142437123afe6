-- The lines of a text. 10 is the line feed and 13 the carriage return.
use Rattle.std.specs.Prelude.{ℕ, ◌+◌, ◌-◌, ◌==◌, ◌&&◌, not, nat_eq, nat_lt, Bool, if◌then◌else◌}
use Rattle.std.specs.Prelude.{List, [], ◌∷◌, length, take, drop, position, Option, Some}
use Rattle.std.specs.List.{slice_split, starts_with, ends_with}
use Rattle.std.specs.Option.{option_map}
use Rattle.preflib_text.specs.declared.pref_fault.PrefFault.{PrefFault}
use Rattle.preflib_text.specs.declared.pref_kind.PrefKind.TheVariants.{BadByte, EmptyLine}
use Rattle.preflib_text.specs.Faults.{Line, in_line}

-- a byte order mark at the front is passed over
abbrev pub mark_len : List ℕ → ℕ
mark_len bytes = if starts_with nat_eq bytes (0xEF ∷ 0xBB ∷ 0xBF ∷ []) then 3 else 0

-- a carriage return right before a line feed ends the line with it
abbrev pub without_return : List ℕ → List ℕ
without_return bytes = if ends_with nat_eq bytes (13 ∷ []) then take (length bytes - 1) bytes else bytes

-- The lines that stand between line feeds. The last has no line feed after it, and where it is empty it is none.
abbrev pub lines_of : (row at : ℕ) → List (List ℕ) → List Line
lines_of row at [] = []
lines_of row at ([] ∷ []) = []
lines_of row at ((b ∷ bs) ∷ []) = record { row = row; at = at; bytes = b ∷ bs } ∷ []
lines_of row at (piece ∷ other ∷ pieces) =
    record { row = row; at = at; bytes = without_return piece }
    ∷ lines_of (row + 1) (at + length piece + 1) (other ∷ pieces)

-- The lines of a whole text.
abbrev pub lines : List ℕ → List Line
lines bytes =
    lines_of 1 (mark_len bytes) (slice_split (λ b. b == 10) (drop (mark_len bytes) bytes))

-- a control byte other than a tab
abbrev pub is_control : ℕ → Bool
is_control b = nat_lt b 32 && not (b == 9)

-- A line has some bytes, and no control byte but tabs.
abbrev pub form_fault : Line → Option PrefFault
form_fault line =
    if length line.bytes == 0 then Some (in_line line EmptyLine 0)
    else option_map (in_line line BadByte) (position is_control line.bytes)
