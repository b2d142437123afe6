use Rattle.blt_reader.specs.Said.{of_a_file, of_a_roll}
use Rattle.blt_reader.proofs.RollAnswers.{says_roll, refuses_roll}
use Rattle.blt_reader.proofs.rolls.read_roll.Goals as goal

pub returns-then-with_ballots-clause-accepted : goal.returns-then-with_ballots-clause-accepted
returns-then-with_ballots-clause-accepted c =
    rw c.if-with_ballots.true (says_roll of_a_file _ _ _ c.read_election.ensures.reads)

pub returns-then-with_ballots-clause-refused : goal.returns-then-with_ballots-clause-refused
returns-then-with_ballots-clause-refused c =
    rw c.if-with_ballots.true (refuses_roll of_a_file _ _ _ c.read_election.ensures.reads)

pub returns-else-with_ballots-clause-accepted : goal.returns-else-with_ballots-clause-accepted
returns-else-with_ballots-clause-accepted c =
    rw c.if-with_ballots.false (says_roll of_a_roll _ _ _ c.read_election-else-with_ballots.ensures.reads)

pub returns-else-with_ballots-clause-refused : goal.returns-else-with_ballots-clause-refused
returns-else-with_ballots-clause-refused c =
    rw c.if-with_ballots.false
    (refuses_roll of_a_roll _ _ _ c.read_election-else-with_ballots.ensures.reads)
