-- The ballots of a text.
use Rattle.std.specs.Prelude.{ℕ, ◌+◌, ◌-◌, nat_eq, Bool, List, [], ◌∷◌, ◌++◌, length, map, take, drop, replicate}
use Rattle.std.specs.Prelude.{sum_by, take_while, Option, Some, unwrap_or}
use Rattle.std.specs.List.{enumerate_from, slice_get, starts_with}
use Rattle.std.specs.Option.{option_map, option_and_then}
use Rattle.plain_ballots.specs.declared.limits.TheConstants.{MOST_BALLOTS}
use Rattle.ballot_marks.specs.Ballot.{ranked}
use Rattle.ballot_marks.specs.Laws.{strict}
use Rattle.ballot_marks.specs.declared.choice.Treat.{Treat}
use Rattle.ballot_marks.specs.declared.treatment.Treatment.{Treatment}
use Rattle.preflib_text.specs.Faults.{Line}
use Rattle.preflib_text.specs.Items.{Order, order_of, count_of}
use Rattle.preflib_text.specs.Lines.{lines}
use Rattle.preflib_text.specs.Metadata.{Entry, entry_of}

-- a line of metadata begins with `#`
abbrev pub is_metadata : Line → Bool
is_metadata line = starts_with nat_eq line.bytes (35 ∷ [])

-- the lines at the front of a text that are metadata, and all lines after them, which are orders
abbrev pub metadata : List ℕ → List Line
metadata bytes = take_while is_metadata (lines bytes)

abbrev pub order_lines : List ℕ → List Line
order_lines bytes = drop (length (metadata bytes)) (lines bytes)

-- what lines of metadata say
abbrev pub entries_of : List Line → List Entry
entries_of lines = map (λ line. entry_of line.bytes) lines

abbrev pub entries : List ℕ → List Entry
entries bytes = entries_of (metadata bytes)

-- where a text ends: at its length, in the row after its last line
abbrev pub end_line : List ℕ → Line
end_line bytes = record { row = length (lines bytes) + 1; at = length bytes; bytes = [] }

-- the line before which the metadata end
abbrev pub line_behind : List ℕ → Line
line_behind bytes = unwrap_or (slice_get (order_lines bytes) 0) (end_line bytes)

-- so many more ballots have room after these lines
abbrev pub room_behind : List Line → ℕ
room_behind before = MOST_BALLOTS - sum_by count_of before

-- lines, each with the room after those before it
abbrev pub with_room : List Line → List (ℕ × Line)
with_room lines = map (λ at. (room_behind (take at.0 lines), at.1)) (enumerate_from 0 lines)

-- the orders that a text says
abbrev pub orders : List ℕ → List Order
orders bytes = map order_of (order_lines bytes)

-- a text has no other marks that are not plain than those of equal ranks
abbrev pub treating : Treat → Treatment
treating equal = record strict { equal = equal }

-- an order's ranking as often as it stands for ballots
abbrev pub plain_of : Treat → Order → Option (List (List ℕ))
plain_of equal order = option_map (λ ranks. replicate order.count ranks) (ranked (treating equal) order.marks)

-- The ballots of orders one after another; none where the marks of one are refused.
abbrev pub ballots : Treat → List Order → Option (List (List ℕ))
ballots equal [] = Some []
ballots equal (order ∷ orders) =
    option_and_then (λ first. option_map (λ rest. first ++ rest) (ballots equal orders)) (plain_of equal order)
