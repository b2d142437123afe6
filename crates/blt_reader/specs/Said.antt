-- What a ballot file says, or why it is refused.
use Rattle.std.specs.Prelude.{◌≡◌, ℕ, List, [], Bool, true, false, Result, Ok, Err, IsOk, ◌↔◌}
use Rattle.plain_ballots.specs.declared.limits.TheConstants.{MOST_BALLOTS}
use Rattle.input_text.specs.declared.fault_kind.FaultKind.TheVariants.{TooManyBallots, BallotsInRoll, Trailing}
use Rattle.input_text.specs.declared.input_fault.InputFault.{InputFault}
use Rattle.input_text.specs.Token.{Item, Scan}
use Rattle.input_text.specs.Scan.{scan}
use Rattle.plain_ballots.specs.declared.ballot_line.BallotLine.{BallotLine}
use Rattle.blt_reader.specs.Poll.{Poll}
use Rattle.blt_reader.specs.Blt.{IsUpToTitle, IsBlt}
use Rattle.input_text.specs.Judged.{Judged, after, outcome, Progress, GoesOn, ended, Stopped, reads, going_on, closed}
use Rattle.blt_reader.specs.BallotTable.{Limit, Lines, Between, at_line}
use Rattle.blt_reader.specs.BltTable.{Expected, Candidates, at_token, at_file_token}
use Rattle.blt_reader.specs.Front.{IsRollFront, IsFileFront, IsLineFront}
use Rattle.input_text.specs.Refusal.{IsOpen, IsAccepted, IsFrontOf, IsRefusal, IsFrontRefusal}

-- a file has at most 999,999,999 ballots
abbrev pub of_a_file : Limit
of_a_file = record { most = MOST_BALLOTS; refusal = TooManyBallots }

-- a roll alone has none
abbrev pub of_a_roll : Limit
of_a_roll = record { most = 0; refusal = BallotsInRoll }

abbrev pub limit_of : Bool → Limit
limit_of true = of_a_file
limit_of false = of_a_roll

-- ---- a whole file

-- what a text says, read by the table
abbrev pub said_by : Limit → Scan → Result Poll InputFault
said_by limit text = outcome (at_file_token limit) ended (GoesOn Candidates) text.tokens text.ending

abbrev pub reading : List ℕ → Result Poll InputFault
reading bytes = said_by of_a_file (scan bytes false)

abbrev pub IsFileRefusal : Limit → Scan → InputFault → Type 0
IsFileRefusal limit = IsRefusal (IsBlt limit.most) (at_file_token limit) (GoesOn Candidates)

-- ---- a roll, which is a file up to its title

-- what the front of a text says, read by the table, and the text after it
abbrev pub roll_reading : Limit → Scan → Result (Poll × Scan) Stopped
roll_reading limit text = reads (at_token limit) Candidates text

abbrev pub IsRollOf : Limit → Scan → Poll → Scan → Type 0
IsRollOf limit = IsFrontOf (IsUpToTitle limit.most)

-- nothing more is expected after the title
abbrev pub nothing_more : Poll → Item → Judged (Progress Expected Poll)
nothing_more poll item = Err Trailing

abbrev pub at_roll_token : Limit → Progress Expected Poll → Item → Judged (Progress Expected Poll)
at_roll_token limit = going_on (at_token limit) nothing_more

abbrev pub IsRollRefusal : Limit → Scan → InputFault → Type 0
IsRollRefusal limit = IsFrontRefusal (IsUpToTitle limit.most) (at_roll_token limit) (GoesOn Candidates)

-- ---- laws

-- A list of tokens is the file of at most one poll.
abbrev pub HasOnePoll : Type 0
HasOnePoll = (most : ℕ) (items : List Item) (one other : Poll) → IsBlt most items one → IsBlt most items other → one ≡ other

-- A list is open exactly where the table refuses none of its tokens.
abbrev pub FollowsOpenLists : Type 0
FollowsOpenLists = (limit : Limit) (items : List Item) → IsOk (after (at_file_token limit) (GoesOn Candidates) items) ↔ IsOpen (IsBlt limit.most) items

-- The table expects exactly what the list before it expects.
abbrev pub ExpectsRightly : Type 0
ExpectsRightly = (limit : Limit) (items : List Item) (expected : Progress Expected Poll) → (after (at_file_token limit) (GoesOn Candidates) items ≡ Ok expected) ↔ IsFileFront limit.most expected items

-- A text says a poll exactly where its tokens are a file of it, without a fault at its end.
abbrev pub AcceptsFiles : Type 0
AcceptsFiles = (limit : Limit) (text : Scan) (poll : Poll) → (said_by limit text ≡ Ok poll) ↔ IsAccepted (IsBlt limit.most) text poll

-- A text is refused exactly by the rule.
abbrev pub RefusesByTheRule : Type 0
RefusesByTheRule = (limit : Limit) (text : Scan) (fault : InputFault) → (said_by limit text ≡ Err fault) ↔ IsFileRefusal limit text fault

-- There is no refusal exactly where there is a poll.
abbrev pub RefusesAllElse : Type 0
RefusesAllElse = (limit : Limit) (text : Scan) → ((fault : InputFault) → ¬ IsFileRefusal limit text fault) ↔ ((poll : Poll) × IsAccepted (IsBlt limit.most) text poll)

-- The front of a text says a poll exactly where it is a file up to its title.
abbrev pub AcceptsRolls : Type 0
AcceptsRolls = (limit : Limit) (text : Scan) (poll : Poll) (rest : Scan) → (roll_reading limit text ≡ Ok (poll, rest)) ↔ IsRollOf limit text poll rest

-- Otherwise it is refused exactly by the rule.
abbrev pub RefusesRollsByTheRule : Type 0
RefusesRollsByTheRule = (limit : Limit) (text : Scan) (fault : InputFault) → ((rest : Scan) × (roll_reading limit text ≡ Err (record { fault = fault; rest = rest }))) ↔ IsRollRefusal limit text fault

-- The table of a roll expects exactly what the list before it expects.
abbrev pub ExpectsRollsRightly : Type 0
ExpectsRollsRightly =
    (limit : Limit) (items : List Item) (expected : Progress Expected Poll)
    → (after (at_roll_token limit) (GoesOn Candidates) items ≡ Ok expected) ↔ IsRollFront limit.most expected items

-- The table of ballot lines expects exactly what the lines before it expect.
abbrev pub ExpectsLinesRightly : Type 0
ExpectsLinesRightly =
    (candidates : ℕ) (limit : Limit) (items : List Item) (expected : Progress Lines (List BallotLine))
    → (after (closed (at_line candidates limit)) (GoesOn (Between [])) items ≡ Ok expected)
    ↔ IsLineFront candidates limit.most expected items
