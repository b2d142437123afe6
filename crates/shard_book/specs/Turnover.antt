-- What a change takes out of the ballots that stand, and what it puts in.
use Rattle.std.specs.Prelude.{◌≡◌, ℕ, ◌++◌, ⊤, Bool, true, false, List, [], Option, Some, None, if◌then◌else◌, IsPermutation}
use Rattle.plain_ballots.specs.declared.ballot_line.BallotLine.{BallotLine}
use Rattle.plain_ballots.specs.Ballots.{BallotList}
use Rattle.batch_core.specs.declared.change.Change.{Change}
use Rattle.batch_core.specs.declared.call.Call.TheVariants.{Change as Changes}
use Rattle.batch_core.specs.declared.reply.Reply.{Reply}
use Rattle.batch_core.specs.declared.reply.Reply.TheVariants.{Entered, Corrected, Withdrawn}
use Rattle.batch_core.specs.Book.{BookState, batch_of, ballots_of, ballot_lines, lines_of, reply}

-- whether a reply says that the change was carried out
abbrev pub is_done : Reply → Bool
is_done Entered = true
is_done (Corrected revision) = true
is_done (Withdrawn revision) = true
is_done _ = false

-- the lines that a change brings
abbrev pub brought : Change → List BallotLine
brought change = ballot_lines (ballots_of change)

-- these lines, where the change was carried out
abbrev pub if_done : Reply → List BallotLine → List BallotLine
if_done answer lines = if is_done answer then lines else []

-- the lines that a change takes out of those that stand in this book: the old ones of its batch
abbrev pub taken_out : BookState → Change → List BallotLine
taken_out book change = if_done (reply book (Changes change)) (lines_of (book.batches (batch_of change)))

-- the lines that it puts in
abbrev pub put_in : BookState → Change → List BallotLine
put_in book change = if_done (reply book (Changes change)) (brought change)

-- ballots, if there are any, among so many candidates
abbrev pub AreOf : ℕ → Option BallotList → Type 0
AreOf candidates None = ⊤
AreOf candidates (Some ballots) = ballots.candidates ≡ candidates

-- ballots of which some were taken out, and others put in
pub record AreExchanged (old out into new : List (List ℕ)) : Type 0 where
  pub kept : List (List ℕ)
  pub before : IsPermutation old (out ++ kept)
  pub after : IsPermutation new (into ++ kept)
