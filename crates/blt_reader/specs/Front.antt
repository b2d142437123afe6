-- Front parts of a ballot file, by what is expected after them.
use Rattle.std.specs.Prelude.{◌≡◌, ◌<◌, ◌≤◌, ℕ, ◌+◌, List, [], ◌∷◌, ◌++◌, length, map, All}
use Rattle.std.specs.List.{flat_map}
use Rattle.plain_ballots.specs.declared.limits.TheConstants.{MOST_CANDIDATES}
use Rattle.plain_ballots.specs.Ballots.{ballot_count}
use Rattle.plain_ballots.specs.Ranking.{IsRanking}
use Rattle.plain_ballots.specs.declared.ballot_line.BallotLine.{BallotLine}
use Rattle.candidate_roll.specs.declared.limits.TheConstants.{MOST_NAME_BYTES}
use Rattle.input_text.specs.Token.{Item, Number, Text}
use Rattle.blt_reader.specs.Poll.{Poll}
use Rattle.input_text.specs.Judged.{Progress, GoesOn, Ends}
use Rattle.input_text.specs.Range.{IsIn}
use Rattle.blt_reader.specs.Blt.{AreLines, ballot, ballots, opening, IsUpToTitle, IsBlt}
use Rattle.blt_reader.specs.BallotTable.{Lines, Between, Within}
use Rattle.blt_reader.specs.BltTable.{Heading, Expected, Candidates, Seats, Withdrawn, Ballots, Name, Title}

-- numbers of candidates, seats and withdrawn candidates that a file may have
pub record IsHeading (heading : Heading) : Type 0 where
  pub candidates : IsIn MOST_CANDIDATES heading.candidates
  pub seats : IsIn MOST_CANDIDATES heading.seats
  pub each_withdrawn : All (IsIn heading.candidates) heading.withdrawn

abbrev pub opening_of : Heading → List Item
opening_of heading = opening heading.candidates heading.seats heading.withdrawn

-- the items of the lines so far
abbrev pub begun : Lines → List Item
begun (Between lines) = flat_map ballot lines
begun (Within lines count ranks) = flat_map ballot lines ++ (Number count ∷ map Number ranks)

-- a line was begun after others
pub record IsOpenLine (candidates most : ℕ) (lines : List BallotLine) (count : ℕ) (ranks : List ℕ) : Type 0 where
  pub before : AreLines candidates most lines
  pub counted : 1 ≤ count
  pub room : ballot_count lines + count ≤ most
  pub ranking : IsRanking candidates ranks

abbrev pub AreBegun : ℕ → ℕ → Lines → Type 0
AreBegun candidates most (Between lines) = AreLines candidates most lines
AreBegun candidates most (Within lines count ranks) = IsOpenLine candidates most lines count ranks

-- up to a count, or a candidate or 0
pub record IsInBallots (most : ℕ) (heading : Heading) (lines : Lines) (items : List Item) : Type 0 where
  pub numbers : IsHeading heading
  pub so_far : AreBegun heading.candidates most lines
  pub spelled : items ≡ opening_of heading ++ begun lines

-- up to a name or the title
pub record IsInNames (most : ℕ) (heading : Heading) (lines : List BallotLine) (names : List (List ℕ)) (items : List Item) : Type 0 where
  pub numbers : IsHeading heading
  pub all_lines : AreLines heading.candidates most lines
  pub so_far : All (λ name. length name ≤ MOST_NAME_BYTES) names
  pub spelled : items ≡ opening_of heading ++ (ballots lines ++ map Text names)

-- The items are a front part of a file that ends where this is expected.
abbrev pub IsFront : ℕ → Expected → List Item → Type 0
IsFront most Candidates items = items ≡ []
IsFront most (Seats candidates) items = IsIn MOST_CANDIDATES candidates × (items ≡ Number candidates ∷ [])
IsFront most (Withdrawn heading) items = IsInBallots most heading (Between []) items
IsFront most (Ballots heading lines) items = IsInBallots most heading lines items × (0 < length (begun lines))
IsFront most (Name heading lines names) items = IsInNames most heading lines names items × (length names < heading.candidates)
IsFront most (Title heading lines names) items = IsInNames most heading lines names items × (length names ≡ heading.candidates)

-- up to the title at most
abbrev pub IsRollFront : ℕ → Progress Expected Poll → List Item → Type 0
IsRollFront most (GoesOn expected) items = IsFront most expected items
IsRollFront most (Ends poll) items = IsUpToTitle most items poll

-- a whole file may go on with strings
abbrev pub IsFileFront : ℕ → Progress Expected Poll → List Item → Type 0
IsFileFront most (GoesOn expected) items = IsFront most expected items
IsFileFront most (Ends poll) items = IsBlt most items poll

-- ---- ballot lines alone, as other files have them too

-- the items of the lines so far
abbrev pub lined : Progress Lines (List BallotLine) → List Item
lined (GoesOn lines) = begun lines
lined (Ends lines) = ballots lines

abbrev pub AreLinedIn : ℕ → ℕ → Progress Lines (List BallotLine) → Type 0
AreLinedIn candidates most (GoesOn lines) = AreBegun candidates most lines
AreLinedIn candidates most (Ends lines) = AreLines candidates most lines

-- The items are ballot lines up to where this is expected, or up to the 0 after them.
abbrev pub IsLineFront : ℕ → ℕ → Progress Lines (List BallotLine) → List Item → Type 0
IsLineFront candidates most expected items = AreLinedIn candidates most expected × (lined expected ≡ items)
