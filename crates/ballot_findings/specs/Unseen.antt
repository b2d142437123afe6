-- What of a file a reader may not see: what is far to the right, and what comes after an odd end of a line. 9 is a tab, 10 a line
-- feed, 13 a carriage return and 32 a space.
use Rattle.std.specs.Prelude.{ℕ, ◌+◌, ◌-◌, ◌==◌, Bool, not, nat_le, ◌&&◌, ◌||◌, List, [], length, take, codes, slice_index, slice_range}
use Rattle.std.specs.List.{filter, flat_map, list_any, range_with_len}
use Rattle.input_text.specs.Token.{Placed}
use Rattle.ballot_findings.specs.Lines.{only_if, place_line}
use Rattle.ballot_findings.specs.Places.{line_at}
use Rattle.ballot_findings.specs.Sites.{candidates_at, seats_at, tokens_of}

-- ---- numbers and strings far to the right

abbrev pub is_no_gap : (byte : ℕ) → Bool
is_no_gap byte = not (byte == 32 || byte == 9)

-- The hundred bytes before this place of the text are blanks.
abbrev pub is_far : (text : List ℕ) → (place : ℕ) → Bool
is_far text place =
    nat_le 100 place && nat_le place (length text) && not (list_any is_no_gap (slice_range text (place - 100) place))

-- a line for the first of these that stands far to the right
abbrev pub first_far : (input : List ℕ) → List Placed → List ℕ
first_far input tokens =
    flat_map (λ token. place_line input (codes "look hidden by blanks") [] token.at)
    (take 1 (filter (λ token. is_far input token.at) tokens))

abbrev pub far_lines : (input : List ℕ) → List ℕ
far_lines input = first_far input (tokens_of input)

-- ---- carriage returns

-- At this place is a carriage return with no line feed after it.
abbrev pub is_lone : (text : List ℕ) → (place : ℕ) → Bool
is_lone text place = slice_index text place == 13 && not (slice_index text (place + 1) == 10)

-- a line for the first of these places with one
abbrev pub first_lone : (input : List ℕ) → (places : List ℕ) → List ℕ
first_lone input places =
    flat_map (place_line input (codes "look line ends with a carriage return alone") [])
    (take 1 (filter (is_lone input) places))

abbrev pub return_lines : (input : List ℕ) → List ℕ
return_lines input = first_lone input (range_with_len 0 (length input))

-- ---- the number of seats

-- a line where the number of seats is on another line than that of candidates
abbrev pub apart_lines : (input : List ℕ) → List ℕ
apart_lines input =
    only_if (not (line_at input (candidates_at input) == line_at input (seats_at input)))
    (place_line input (codes "look seats on another line") [] (seats_at input))
