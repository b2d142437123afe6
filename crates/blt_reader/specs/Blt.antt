-- A ballot file, as the list of what its tokens say.
use Rattle.std.specs.Prelude.{◌≡◌, ◌≤◌, ℕ, List, [], ◌∷◌, ◌++◌, length, map, All}
use Rattle.std.specs.List.{flat_map}
use Rattle.plain_ballots.specs.declared.limits.TheConstants.{MOST_CANDIDATES}
use Rattle.plain_ballots.specs.Ballots.{ballot_count}
use Rattle.plain_ballots.specs.Ranking.{IsRanking}
use Rattle.plain_ballots.specs.declared.ballot_line.BallotLine.{BallotLine}
use Rattle.candidate_roll.specs.declared.limits.TheConstants.{MOST_NAME_BYTES, MOST_TITLE_BYTES}
use Rattle.input_text.specs.Token.{Item, Number, Minus, Text}
use Rattle.input_text.specs.Range.{IsIn}
use Rattle.candidate_roll.specs.Roll.{withdrawn_marks}
use Rattle.blt_reader.specs.Poll.{Poll}

-- lines of ballots among so many candidates, each of at least one ballot, and together of at most so many
pub record AreLines (candidates most : ℕ) (lines : List BallotLine) : Type 0 where
  pub rankings : All (λ line. IsRanking candidates line.ranking) lines
  pub counted : All (λ line. 1 ≤ line.count) lines
  pub bounded : ballot_count lines ≤ most

-- a count, the candidates in order of rank, and 0
abbrev pub ballot : BallotLine → List Item
ballot line = Number line.count ∷ map Number line.ranking ++ Number 0 ∷ []

-- ballots, and 0
abbrev pub ballots : List BallotLine → List Item
ballots lines = flat_map ballot lines ++ Number 0 ∷ []

-- the numbers of candidates and seats, and the withdrawn candidates
abbrev pub opening : ℕ → ℕ → List ℕ → List Item
opening candidates seats withdrawn = Number candidates ∷ Number seats ∷ map Minus withdrawn

-- A file up to its title, of at most so many ballots: 1 to 250 candidates and seats, the withdrawn candidates as often
-- and in what order they may stand, the ballots, a name for each candidate in number order, and the title.
pub record IsUpToTitle (most : ℕ) (items : List Item) (poll : Poll) : Type 0 where
  pub withdrawn : List ℕ
  pub spelled : items ≡ opening (length poll.roll.names) poll.roll.seats withdrawn
      ++ (ballots poll.lines ++ (map Text poll.roll.names ++ Text poll.roll.title ∷ []))
  pub candidates : IsIn MOST_CANDIDATES (length poll.roll.names)
  pub seats : IsIn MOST_CANDIDATES poll.roll.seats
  pub each_withdrawn : All (IsIn (length poll.roll.names)) withdrawn
  pub marks : poll.roll.withdrawn ≡ withdrawn_marks (length poll.roll.names) withdrawn
  pub lines : AreLines (length poll.roll.names) most poll.lines
  pub names : All (λ name. length name ≤ MOST_NAME_BYTES) poll.roll.names
  pub title : length poll.roll.title ≤ MOST_TITLE_BYTES

-- A whole file: strings of any length may stand after the title, and are not kept.
pub record IsBlt (most : ℕ) (items : List Item) (poll : Poll) : Type 0 where
  pub front : List Item
  pub further : List (List ℕ)
  pub spelled : items ≡ front ++ map Text further
  pub up_to_title : IsUpToTitle most front poll
