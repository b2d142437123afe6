-- The canonical text of a ballot file. 10 ends a line, 32 is a space, 34 a quote and 45 a minus.
use Rattle.std.specs.Prelude.{◌≡◌, ℕ, List, [], ◌∷◌, ◌++◌, Bool, codes, decimal, filter, length}
use Rattle.std.specs.List.{flat_map, range_with_len}
use Rattle.candidate_roll.specs.Roll.{RollList, is_withdrawn}
use Rattle.plain_ballots.specs.declared.ballot_line.BallotLine.{BallotLine}
use Rattle.blt_writer.specs.Order.{AreLinesOf}

-- a number and the byte after it
abbrev pub number_then : (behind n : ℕ) → List ℕ
number_then behind n = decimal n ++ behind ∷ []

-- the numbers of candidates and of seats
abbrev pub head_text : (candidates seats : ℕ) → List ℕ
head_text candidates seats = number_then 32 candidates ++ number_then 10 seats

-- the withdrawn candidates by rising number
abbrev pub withdrawn_numbers : List Bool → List ℕ
withdrawn_numbers withdrawn = filter (is_withdrawn withdrawn) (range_with_len 1 (length withdrawn))

abbrev pub withdrawn_text : (candidate : ℕ) → List ℕ
withdrawn_text c = 45 ∷ number_then 10 c

-- how many ballots, their candidates in order of rank, and 0
abbrev pub ballot_text : BallotLine → List ℕ
ballot_text line = number_then 32 line.count ++ (flat_map (number_then 32) line.ranking ++ codes "0\n")

abbrev pub quoted : List ℕ → List ℕ
quoted text = 34 ∷ (text ++ 34 ∷ 10 ∷ [])

-- the lines before the ballots
abbrev pub opening_text : RollList → List ℕ
opening_text roll =
    head_text (length roll.names) roll.seats ++ flat_map withdrawn_text (withdrawn_numbers roll.withdrawn)

-- the lines after the ballots
abbrev pub closing_text : RollList → List ℕ
closing_text roll = codes "0\n" ++ (flat_map quoted roll.names ++ quoted roll.title)

-- a roll with lines of ballots
abbrev pub file_text : RollList → List BallotLine → List ℕ
file_text roll lines = opening_text roll ++ (flat_map ballot_text lines ++ closing_text roll)

-- The text of a bag of ballots under a roll: one line for each different ranking.
abbrev pub IsBltText : (ballots : List (List ℕ)) → RollList → (text : List ℕ) → Type 0
IsBltText ballots roll text = (lines : List BallotLine) × AreLinesOf ballots lines × (text ≡ file_text roll lines)
