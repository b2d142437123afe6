-- The first fault of a text.
use Rattle.std.specs.Prelude.{ℕ, ◌==◌, Bool, true, false, if◌then◌else◌, List, length, map, take}
use Rattle.std.specs.Prelude.{sum_by, Option, Some, None}
use Rattle.std.specs.List.{enumerate_from, slice_get}
use Rattle.std.specs.Option.{option_map, option_map_or, option_or, option_and_then}
use Rattle.ballot_marks.specs.Ballot.{judged, effective, end_way}
use Rattle.ballot_marks.specs.declared.choice.Treat.{Treat}
use Rattle.ballot_marks.specs.declared.way.Way.{Way}
use Rattle.ballot_marks.specs.declared.way.Way.TheVariants.{Refused}
use Rattle.preflib_text.specs.declared.pref_fault.PrefFault.{PrefFault}
use Rattle.preflib_text.specs.declared.pref_kind.PrefKind.TheVariants.{EqualRank, WrongTotal}
use Rattle.preflib_text.specs.Asked.{Asked}
use Rattle.preflib_text.specs.Ballots.{treating, metadata, order_lines, entries_of, entries, end_line, line_behind}
use Rattle.preflib_text.specs.Ballots.{with_room}
use Rattle.preflib_text.specs.Faults.{Line, in_line, first_of}
use Rattle.preflib_text.specs.Head.{candidates, voters, head_fault}
use Rattle.preflib_text.specs.Items.{items, marks_of, count_of}
use Rattle.preflib_text.specs.Lines.{form_fault}
use Rattle.preflib_text.specs.Metadata.{entry_of, entry_fault}
use Rattle.preflib_text.specs.Orders.{order_fault}

-- why a line of metadata can't stand after these: its form, and then what it says, at the place of what it says
abbrev pub metadata_fault : Asked → (before : List Line) → Line → Option PrefFault
metadata_fault asked before line =
    let entry = entry_of line.bytes in
    option_or (form_fault line)
    (option_map (λ kind. in_line line kind entry.at) (entry_fault asked (entries_of before) entry))

-- the faults of lines of metadata, each judged by those before it
abbrev pub metadata_faults : Asked → List Line → List (Option PrefFault)
metadata_faults asked lines = map (λ at. metadata_fault asked (take at.0 lines) at.1) (enumerate_from 0 lines)

abbrev pub is_refused : Option Way → Bool
is_refused (Some (Refused why)) = true
is_refused other = false

-- the refusal of an order's marks, at the item of the first that is refused: no rank is skipped and nobody is
-- repeated, so it says more than one candidate
abbrev pub mark_fault : Treat → Line → Option PrefFault
mark_fault equal line =
    let js = judged (treating equal) (marks_of (items line)) in
    let at = option_map_or (λ item. item.at) (slice_get (items line) (length (effective js))) 0 in
    if is_refused (end_way js) then Some (in_line line EqualRank at) else None

-- why a line is no order: its form, and then its parts
abbrev pub parts_fault : (room candidates : ℕ) → Line → Option PrefFault
parts_fault room candidates line = option_or (form_fault line) (order_fault room candidates line)

-- the first fault of an order: why it is none, and then its marks
abbrev pub whole_fault : Treat → (candidates : ℕ) → ℕ × Line → Option PrefFault
whole_fault equal candidates line = option_or (parts_fault line.0 candidates line.1) (mark_fault equal line.1)

-- the number of voters, where it is given, is that of the ballots of a text that ends before this line
abbrev pub voters_fault : (voters : Option ℕ) → (ballots : ℕ) → Line → Option PrefFault
voters_fault voters ballots line =
    option_and_then (λ n. if n == ballots then None else Some (in_line line WrongTotal 0)) voters

abbrev pub total_fault : List ℕ → Option PrefFault
total_fault bytes = voters_fault (voters (entries bytes)) (sum_by count_of (order_lines bytes)) (end_line bytes)

-- the fault of the metadata as a whole, for which the form of the first other line is judged
abbrev pub behind_metadata : Asked → List ℕ → Option PrefFault
behind_metadata asked bytes =
    option_or (option_and_then form_fault (slice_get (order_lines bytes) 0))
    (head_fault asked (entries bytes) (line_behind bytes))

-- the faults of orders, each judged after those before it
abbrev pub order_faults : Treat → (candidates : ℕ) → List Line → List (Option PrefFault)
order_faults equal candidates lines = map (whole_fault equal candidates) (with_room lines)

-- The first fault of a text: of its metadata, of these as a whole, of its orders, of the total of voters.
abbrev pub fault_of_text : Asked → List ℕ → Option PrefFault
fault_of_text asked bytes =
    option_or (first_of (metadata_faults asked (metadata bytes)))
    (option_or (behind_metadata asked bytes)
    (option_or (first_of (order_faults asked.equal (candidates (entries bytes)) (order_lines bytes))) (total_fault bytes)))
