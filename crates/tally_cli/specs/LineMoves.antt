-- The moves of ballots that come or go.
use Rattle.std.specs.Prelude.{ℕ, Bool, true, false, List, [], ◌∷◌, ◌++◌}
use Rattle.std.specs.List.{flat_map}
use Rattle.plain_ballots.specs.declared.ballot_line.BallotLine.{BallotLine}
use Rattle.tally_board.specs.declared.ballot_move.Move.{Move}

-- so many ballots come or go for the first of these candidates; a ballot that names nobody moves nothing
abbrev pub first_moves : Bool → ℕ → List ℕ → List Move
first_moves comes count [] = []
first_moves comes count (c ∷ ranks) = record { candidate = c; ballots = count; comes = comes } ∷ []

abbrev pub line_moves : Bool → BallotLine → List Move
line_moves comes line = first_moves comes line.count line.ranking

-- one move for each line that names somebody
abbrev pub moves_of : Bool → List BallotLine → List Move
moves_of comes lines = flat_map (line_moves comes) lines

-- the old lines go, and then the new ones come
abbrev pub exchange : (old new : List BallotLine) → List Move
exchange old new = moves_of false old ++ moves_of true new
