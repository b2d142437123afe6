-- An election of the code, as its file says it.
use Rattle.std.specs.Prelude.{List}
use Rattle.plain_ballots.specs.declared.ballot_line.BallotLine.{BallotLine}
use Rattle.blt_reader.specs.declared.election.Election.{Election}
use Rattle.blt_reader.specs.declared.election.StoredElection.{StoredElection}
use Rattle.blt_reader.specs.Poll.{Poll}

abbrev pub poll : Election → Poll
poll election = record { roll = election.roll; lines = election.ballots.lines }

-- an election whose store holds the ballots of these lines
abbrev pub poll_of_lines : {B : Type 0} → StoredElection B → List BallotLine → Poll
poll_of_lines election lines = record { roll = election.roll; lines = lines }
