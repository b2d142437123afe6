-- What holds of all files: which of them want no look, and what first preferences come to.
use Rattle.std.specs.Prelude.{◌≡◌, ◌≢◌, ◌↔◌, ◌<◌, ◌≤◌, ◌+◌, ℕ, Bool, true, false, List, [], ◌∷◌, ◌++◌, length, map, sum_by, take, drop, All, Contains}
use Rattle.std.specs.List.{filter, flat_map, range_with_len}
use Rattle.plain_ballots.specs.declared.ballot_line.BallotLine.{BallotLine}
use Rattle.plain_ballots.specs.Ballots.{ballot_count, plain}
use Rattle.plain_ballots.specs.Ranking.{IsRanking}
use Rattle.candidate_roll.specs.Roll.{RollList, is_withdrawn}
use Rattle.input_text.specs.Token.{Number, Text, Placed}
use Rattle.input_text.specs.Refusal.{items_of}
use Rattle.blt_reader.specs.Poll.{Poll}
use Rattle.tool_edge.specs.Contest.{SaysPoll}
use Rattle.ballot_findings.specs.Breaks.{break_lines, further_lines}
use Rattle.ballot_findings.specs.Sites.{candidates_at, goes_on, seats_at, strings, tokens_of, withdrawn_ranks}
use Rattle.ballot_findings.specs.Unseen.{apart_lines, far_lines, is_far, is_lone, return_lines}
use Rattle.ballot_findings.specs.Places.{line_at}
use Rattle.ballot_findings.specs.Counts.{has_first, how_many, is_empty, ranks_withdrawn, is_ranked}
use Rattle.ballot_findings.specs.declared.oddity.Oddity.{Oddity}
use Rattle.ballot_findings.specs.Free.{IsFree}
use Rattle.ballot_findings.specs.Names.{name_of, plainly, running}
use Rattle.ballot_findings.specs.Lines.{enough_seats_lines, like_name_lines, many_seats_lines, odd_name_lines, odd_title_lines, one_name_lines, unranked_lines, withdrawn_lines}

-- the number of a candidate of this roll
abbrev pub IsOf : RollList → (c : ℕ) → Type 0
IsOf roll c = (1 ≤ c) × (c ≤ length roll.names)

-- Nobody is warned of one name exactly where no two candidates have the same.
abbrev pub OneNameIsTold : Type 0
OneNameIsTold =
    (input : List ℕ) (roll : RollList)
    → (one_name_lines input roll ≡ [])
    ↔ ((c d : ℕ) → IsOf roll c → IsOf roll d → c < d → name_of roll.names c ≢ name_of roll.names d)

-- Nobody is warned of similar names exactly where names that are alike but for spaces and case are the same.
abbrev pub LikeNamesAreTold : Type 0
LikeNamesAreTold =
    (input : List ℕ) (roll : RollList)
    → (like_name_lines input roll ≡ [])
    ↔ ((c d : ℕ) → IsOf roll c → IsOf roll d → c < d
    → plainly (name_of roll.names c) ≡ plainly (name_of roll.names d) → name_of roll.names c ≡ name_of roll.names d)

-- Nobody is warned of an oddity of names exactly where each name is free of it.
abbrev pub OddNamesAreTold : Type 0
OddNamesAreTold =
    (input : List ℕ) (roll : RollList) (oddity : Oddity)
    → (odd_name_lines input roll oddity ≡ []) ↔ ((c : ℕ) → IsOf roll c → IsFree oddity (name_of roll.names c))

-- Nobody is warned of an oddity of the title exactly where the title is free of it.
abbrev pub OddTitlesAreTold : Type 0
OddTitlesAreTold =
    (input : List ℕ) (roll : RollList) (oddity : Oddity)
    → (odd_title_lines input roll oddity ≡ []) ↔ IsFree oddity roll.title

-- Nobody is warned of seats exactly where there are not more than candidates, and fewer than candidates who run.
abbrev pub SeatsAreTold : Type 0
SeatsAreTold =
    (input : List ℕ) (roll : RollList)
    → ((many_seats_lines input roll ≡ []) ↔ (roll.seats ≤ length roll.names))
    × ((enough_seats_lines input roll ≡ []) ↔ (roll.seats < running roll))

-- Nobody is warned of candidates on no ballot exactly where each is on one.
abbrev pub UnrankedAreTold : Type 0
UnrankedAreTold =
    (input : List ℕ) (candidates : ℕ) (lines : List BallotLine)
    → (unranked_lines input candidates (is_ranked lines) ≡ [])
    ↔ ((c : ℕ) → 1 ≤ c → c ≤ candidates → (ballot : List ℕ) × Contains (plain lines) ballot × Contains ballot c)

-- Nobody is warned of withdrawn candidates exactly where no ballot ranks one.
abbrev pub WithdrawnAreTold : Type 0
WithdrawnAreTold =
    (input : List ℕ) (withdrawn : List Bool) (lines : List BallotLine)
    → (withdrawn_lines input withdrawn (how_many (ranks_withdrawn withdrawn) lines) ≡ [])
    ↔ All (λ ballot. ranks_withdrawn withdrawn ballot ≡ false) (plain lines)

-- The first preferences of all candidates and the ballots that rank nobody are all ballots.
abbrev pub FirstsAreAll : Type 0
FirstsAreAll =
    (candidates : ℕ) (lines : List BallotLine) → All (λ line. IsRanking candidates line.ranking) lines
    → sum_by (λ c. how_many (has_first c) lines) (range_with_len 1 candidates) + how_many is_empty lines
    ≡ ballot_count lines

-- Nobody is warned of a line break exactly where, after the numbers of candidates and seats, each count and each candidate
-- of a ballot is on one line with what is next.
abbrev pub BreaksAreTold : Type 0
BreaksAreTold =
    (input : List ℕ)
    → (break_lines input ≡ [])
    ↔ ((front : List Placed) (token next : Placed) (behind : List Placed)
    → drop 2 (tokens_of input) ≡ front ++ token ∷ next ∷ behind → goes_on token.item ≡ true
    → line_at input token.at ≡ line_at input next.at)

-- Nobody is warned of strings exactly where there are not more than the names and the title.
abbrev pub FurtherAreTold : Type 0
FurtherAreTold =
    (input : List ℕ) (candidates : ℕ)
    → (further_lines input candidates ≡ []) ↔ (length (strings (tokens_of input)) ≤ candidates + 1)

-- Nobody is warned of the number of seats exactly where it is on the line of the number of candidates.
abbrev pub ApartIsTold : Type 0
ApartIsTold =
    (input : List ℕ) → (apart_lines input ≡ []) ↔ (line_at input (candidates_at input) ≡ line_at input (seats_at input))

-- Nobody is warned of blanks exactly where before no number and no string a hundred of them are.
abbrev pub FarIsTold : Type 0
FarIsTold = (input : List ℕ) → (far_lines input ≡ []) ↔ All (λ token. is_far input token.at ≡ false) (tokens_of input)

-- Nobody is warned of carriage returns exactly where after each a line feed comes.
abbrev pub ReturnsAreTold : Type 0
ReturnsAreTold =
    (input : List ℕ)
    → (return_lines input ≡ []) ↔ All (λ place. is_lone input place ≡ false) (range_with_len 0 (length input))

-- ---- the tokens whose places are told

-- The first two tokens of a ballot file are the numbers of candidates and of seats.
abbrev pub SeatsAreSecond : Type 0
SeatsAreSecond =
    (input : List ℕ) (poll : Poll) → SaysPoll input poll
    → items_of (take 2 (tokens_of input)) ≡ Number (length poll.roll.names) ∷ Number poll.roll.seats ∷ []

-- The strings of a ballot file are the names by their numbers, the title, and those that are not kept.
abbrev pub NamesAreFirstStrings : Type 0
NamesAreFirstStrings =
    (input : List ℕ) (poll : Poll) → SaysPoll input poll
    → (further : List (List ℕ))
    × (items_of (strings (tokens_of input)) ≡ map Text (poll.roll.names ++ (poll.roll.title ∷ further)))

-- What is taken for withdrawn candidates on ballots are just the withdrawn candidates of the ballot lines, in their order.
abbrev pub RanksAreOfLines : Type 0
RanksAreOfLines =
    (input : List ℕ) (poll : Poll) → SaysPoll input poll
    → items_of (withdrawn_ranks poll.roll.withdrawn (drop 2 (tokens_of input)))
    ≡ map Number (flat_map (λ line. filter (is_withdrawn poll.roll.withdrawn) line.ranking) poll.lines)
