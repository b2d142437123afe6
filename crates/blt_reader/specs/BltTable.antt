-- What is expected in a ballot file, and what an item leads to there.
use Rattle.std.specs.Prelude.{ℕ, List, [], ◌∷◌, ◌++◌, length, ◌==◌, if◌then◌else◌, nat_le, Ok, Err}
use Rattle.plain_ballots.specs.declared.limits.TheConstants.{MOST_CANDIDATES}
use Rattle.plain_ballots.specs.declared.ballot_line.BallotLine.{BallotLine}
use Rattle.candidate_roll.specs.declared.limits.TheConstants.{MOST_NAME_BYTES, MOST_TITLE_BYTES}
use Rattle.input_text.specs.declared.fault_kind.FaultKind.TheVariants.{BadHeader, BadWithdrawn, NameExpected, TooLongName, Trailing}
use Rattle.input_text.specs.Token.{Item, Number, Minus, Text}
use Rattle.input_text.specs.Range.{is_in}
use Rattle.candidate_roll.specs.Roll.{withdrawn_marks}
use Rattle.blt_reader.specs.Poll.{Poll}
use Rattle.input_text.specs.Judged.{Judged, Progress, GoesOn, Ends, carried, going_on}
use Rattle.blt_reader.specs.BallotTable.{Limit, Lines, Between, at_line}

-- the numbers of candidates and seats, and the withdrawn candidates so far
pub record Heading : Type 0 where
  pub candidates : ℕ
  pub seats : ℕ
  pub withdrawn : List ℕ

-- what is expected, and what was read before it
pub data Expected : Type 0 where
  Candidates : Expected
  Seats : (candidates : ℕ) → Expected
  -- a withdrawn candidate, or the first count
  Withdrawn : (heading : Heading) → Expected
  -- a count, or a candidate or 0
  Ballots : (heading : Heading) (lines : Lines) → Expected
  Name : (heading : Heading) (lines : List BallotLine) (names : List (List ℕ)) → Expected
  Title : (heading : Heading) (lines : List BallotLine) (names : List (List ℕ)) → Expected

abbrev pub at_candidates : ℕ → Judged (Progress Expected Poll)
at_candidates n = if is_in MOST_CANDIDATES n then Ok (GoesOn (Seats n)) else Err BadHeader

abbrev pub at_seats : ℕ → ℕ → Judged (Progress Expected Poll)
at_seats candidates n =
    if is_in MOST_CANDIDATES n then Ok (GoesOn (Withdrawn (record { candidates = candidates; seats = n; withdrawn = [] })))
    else Err BadHeader

abbrev pub at_withdrawn : Heading → ℕ → Judged (Progress Expected Poll)
at_withdrawn heading n =
    if is_in heading.candidates n then Ok (GoesOn (Withdrawn (record heading { withdrawn = heading.withdrawn ++ n ∷ [] })))
    else Err BadWithdrawn

-- within the ballots, after which the names follow
abbrev pub within_ballots : Heading → Judged (Progress Lines (List BallotLine)) → Judged (Progress Expected Poll)
within_ballots heading = carried (λ lines. Ballots heading lines) (λ lines. Name heading lines [])

-- the next name, or the title where all names are there
abbrev pub behind_name : Heading → List BallotLine → List (List ℕ) → Expected
behind_name heading lines names = if length names == heading.candidates then Title heading lines names else Name heading lines names

abbrev pub at_name : Heading → List BallotLine → List (List ℕ) → List ℕ → Judged (Progress Expected Poll)
at_name heading lines names name =
    if nat_le (length name) MOST_NAME_BYTES then Ok (GoesOn (behind_name heading lines (names ++ name ∷ []))) else Err TooLongName

abbrev pub poll_of : Heading → List BallotLine → List (List ℕ) → List ℕ → Poll
poll_of heading lines names title =
    record { roll = record { seats = heading.seats; names = names; title = title; withdrawn = withdrawn_marks heading.candidates heading.withdrawn }; lines = lines }

abbrev pub at_title : Heading → List BallotLine → List (List ℕ) → List ℕ → Judged (Progress Expected Poll)
at_title heading lines names title = if nat_le (length title) MOST_TITLE_BYTES then Ok (Ends (poll_of heading lines names title)) else Err TooLongName

-- a file up to its title
unfoldable pub at_token : Limit → Expected → Item → Judged (Progress Expected Poll)
at_token limit Candidates (Number n) = at_candidates n
at_token limit Candidates item = Err BadHeader
at_token limit (Seats candidates) (Number n) = at_seats candidates n
at_token limit (Seats candidates) item = Err BadHeader
at_token limit (Withdrawn heading) (Minus n) = at_withdrawn heading n
at_token limit (Withdrawn heading) item = within_ballots heading (at_line heading.candidates limit (Between []) item)
at_token limit (Ballots heading lines) item = within_ballots heading (at_line heading.candidates limit lines item)
at_token limit (Name heading lines names) (Text name) = at_name heading lines names name
at_token limit (Name heading lines names) item = Err NameExpected
at_token limit (Title heading lines names) (Text title) = at_title heading lines names title
at_token limit (Title heading lines names) item = Err NameExpected

-- strings after the title are not kept
abbrev pub behind_title : Poll → Item → Judged (Progress Expected Poll)
behind_title poll (Text text) = Ok (Ends poll)
behind_title poll item = Err Trailing

-- a whole file
abbrev pub at_file_token : Limit → Progress Expected Poll → Item → Judged (Progress Expected Poll)
at_file_token limit = going_on (at_token limit) behind_title
